-- Proofs on digits in base 100, their number and their bytes.
use Rattle.std.specs.Prelude.{◌≡◌, ℕ, zero, suc, ◌+◌, ◌-◌, ◌*◌, ◌^◌, ◌<◌, ◌≤◌, ◌⊎◌, List, [], ◌∷◌, length, refl}
use Rattle.std.proofs.Common.{ap, inl, inr, arith, mul-le-mul_right, suc-mul, add-mul, mul_assoc, mul-pos}
use Rattle.std.proofs.Math.Nat.{pow-succ', one-le-pow}
use Rattle.std.proofs.lemmas.Bool.{cases_order}
use Rattle.std.specs.List.{AllByRecursion}
use Rattle.std.specs.Int.Digits.{number_from_digits, number_from_digits_after}
use Rattle.codes.specs.Codes.{mark, mantissa}
use Rattle.codes.specs.Orders.{Parts}

abbrev pub Under : List ℕ → Type 0
Under ds = AllByRecursion (λ d. d < 100) ds

-- the digits' worth where the first stands just below 100^p
abbrev pub place : List ℕ → ℕ → ℕ
place [] p = 0
place (d ∷ ds) zero = 0
place (d ∷ ds) (suc p) = d * 100 ^ p + place ds p

-- two numbers by their first digits
pub heads : (P d e x y : ℕ) → x < P → y < P → d * P + x < e * P + y → (d < e) ⊎ ((d ≡ e) × (x < y))
heads P d e x y hx hy h =
    elim (cases_order d e) [
      | inl q ↦ inr (q, omega (arith, ap (λ z. z * P) q))
      | inr r ↦ elim r [ inl l ↦ inl l | inr l ↦ absurd (omega (arith, mul-le-mul_right P l, suc-mul e P)) ]
    ]

pub heads_same : (P d e x y : ℕ) → x < P → y < P → d * P + x ≡ e * P + y → (d ≡ e) × (x ≡ y)
heads_same P d e x y hx hy h =
    elim (cases_order d e) [
      | inl q ↦ (q, omega (arith, ap (λ z. z * P) q))
      | inr r ↦ elim r [
        | inl l ↦ absurd (omega (arith, mul-le-mul_right P l, suc-mul d P))
        | inr l ↦ absurd (omega (arith, mul-le-mul_right P l, suc-mul e P))
      ]
    ]

pub place_lt : (ds : List ℕ) (p : ℕ) → Under ds → place ds p < 100 ^ p
place_lt [] p u = one-le-pow p 100 (omega arith)
place_lt (d ∷ ds) zero u = omega arith
place_lt (d ∷ ds) (suc p) u =
    omega (arith, pow-succ' 100 p, place_lt ds p u.1, mul-le-mul_right (100 ^ p) u.0, suc-mul d (100 ^ p))

pub place_ge : (d : ℕ) (ds : List ℕ) (p : ℕ) → 0 < d → 100 ^ p ≤ place (d ∷ ds) (suc p)
place_ge d ds p h = omega (arith, mul-le-mul_right (100 ^ p) h)

mark_lt : (d e : ℕ) (ds es : List ℕ) → d < e → mark d ds < mark e es
mark_lt d e [] [] h = omega arith
mark_lt d e [] (y ∷ ys) h = omega arith
mark_lt d e (x ∷ xs) [] h = omega arith
mark_lt d e (x ∷ xs) (y ∷ ys) h = omega arith

tails : (d e p : ℕ) (xs ys : List ℕ) → d ≡ e → place xs p < place ys p → (0 < length xs → Parts (mantissa xs) (mantissa ys)) →
    Parts (mantissa (d ∷ xs)) (mantissa (e ∷ ys))
tails d e p [] [] q l again = absurd (omega arith)
tails d e p [] (y ∷ ys) q l again = inl (omega arith)
tails d e p (x ∷ xs) [] q l again = absurd (omega arith)
tails d e p (x ∷ xs) (y ∷ ys) q l again = inr (omega arith, again (omega arith))

-- digits of a smaller number part from those of a larger one, in their bytes
pub digits_part : (ds es : List ℕ) (p : ℕ) → 0 < length ds → Under ds → Under es → place ds p < place es p → Parts (mantissa ds) (mantissa es)
digits_part [] es p n u w h = absurd (omega arith)
digits_part (d ∷ ds) [] p n u w h = absurd (omega arith)
digits_part (d ∷ ds) (e ∷ es) zero n u w h = absurd (omega arith)
digits_part (d ∷ ds) (e ∷ es) (suc p) n u w h =
    elim (heads (100 ^ p) d e (place ds p) (place es p) (place_lt ds p u.1) (place_lt es p w.1) h) [
      | inl l ↦ inl (mark_lt d e ds es l)
      | inr q ↦ tails d e p ds es q.0 q.1 (λ m. digits_part ds es p m u.1 w.1 q.1)
    ]

-- the last digit is not 0
abbrev pub Ends : ℕ → List ℕ → Type 0
Ends d [] = 0 < d
Ends d (e ∷ es) = Ends e es

pub place_pos : (d : ℕ) (ds : List ℕ) (p : ℕ) → Ends d ds → length ds < p → 0 < place (d ∷ ds) p
place_pos d ds zero h l = absurd (omega arith)
place_pos d [] (suc p) h l = omega (arith, mul-pos h (one-le-pow p 100 (omega arith)))
place_pos d (e ∷ es) (suc p) h l = omega (arith, place_pos e es p h (omega arith))

-- one number has one row of digits
pub digits_same : (d e : ℕ) (ds es : List ℕ) (p : ℕ) → Under (d ∷ ds) → Under (e ∷ es) → Ends d ds → Ends e es →
    length ds < p → length es < p → place (d ∷ ds) p ≡ place (e ∷ es) p → (d ≡ e) × (ds ≡ es)
digits_same d e ds es zero u w a b l m h = absurd (omega arith)
digits_same d e [] [] (suc p) u w a b l m h = ((heads_same (100 ^ p) d e 0 0 (one-le-pow p 100 (omega arith)) (one-le-pow p 100 (omega arith)) h).0, refl)
digits_same d e [] (y ∷ ys) (suc p) u w a b l m h =
    let r = (heads_same (100 ^ p) d e 0 (place (y ∷ ys) p) (one-le-pow p 100 (omega arith)) (place_lt (y ∷ ys) p w.1) h).1 in
    absurd (omega (arith, place_pos y ys p b (omega arith)))
digits_same d e (x ∷ xs) [] (suc p) u w a b l m h =
    let r = (heads_same (100 ^ p) d e (place (x ∷ xs) p) 0 (place_lt (x ∷ xs) p u.1) (one-le-pow p 100 (omega arith)) h).1 in
    absurd (omega (arith, place_pos x xs p a (omega arith)))
digits_same d e (x ∷ xs) (y ∷ ys) (suc p) u w a b l m h =
    let r = heads_same (100 ^ p) d e (place (x ∷ xs) p) (place (y ∷ ys) p) (place_lt (x ∷ xs) p u.1) (place_lt (y ∷ ys) p w.1) h in
    let q = digits_same x y xs ys p u.1 w.1 a b (omega arith) (omega arith) r.1 in
    (r.0, let f = q.0 in let g = q.1 in cc)

-- the number that digits write, moved to its place
pub number_place : (n : ℕ) (ds : List ℕ) (k : ℕ) → number_from_digits_after 100 n ds * 100 ^ k ≡ n * 100 ^ (length ds + k) + place ds (length ds + k)
number_place n [] k = let e : 0 + k ≡ k = omega arith in rw e (omega arith)
number_place n (d ∷ ds) k =
    let e : suc (length ds) + k ≡ suc (length ds + k) = omega arith in
    let P = 100 ^ (length ds + k) in
    rw (e, pow-succ' 100 (length ds + k))
    (omega (arith, number_place (n * 100 + d) ds k, add-mul (n * 100) d P, mul_assoc n 100 P))

pub number_at : (ds : List ℕ) (p : ℕ) → length ds ≤ p → number_from_digits 100 ds * 100 ^ (p - length ds) ≡ place ds p
number_at ds p h =
    let e : length ds + (p - length ds) ≡ p = omega arith in
    omega (arith, rw e at (number_place 0 ds (p - length ds)))
