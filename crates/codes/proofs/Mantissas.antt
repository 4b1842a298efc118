-- Reading a mantissa, digit by digit.
use Rattle.std.proofs.Common.{◌≡◌, ℕ, zero, suc, ◌+◌, ◌-◌, ◌*◌, ◌%◌, ◌<◌, ◌≤◌, List, [], ◌∷◌, ◌++◌, length, get_or, take, drop, sym, refl, ap, subst, append_assoc, add-one, arith, drop-cons}
use Rattle.std.proofs.ByRecursion.{All-from_get_or}
use Rattle.std.proofs.lemmas.List.{drop_all}
use Rattle.codes.specs.declared.sign.Sign.{Sign}
use Rattle.codes.specs.declared.sign.Sign.TheVariants.{Negative, Positive}
use Rattle.codes.specs.Strings.{Begins, Bytes}
use Rattle.codes.specs.Decimals.{Row, Trim}
use Rattle.codes.specs.Codes.{body_of, mark, mantissa}
use Rattle.codes.specs.Leads.{AreDigits, Mark}
use Rattle.codes.specs.Reading.{Starts, Begun, Stops}
use Rattle.codes.specs.Sources.{Through}
use Rattle.codes.specs.Numbers.{mantissa_bytes}
use Rattle.codes.proofs.Readings.{begins_cons, cons_begins, flip_starts, flip_stops}

-- digits that can follow i others: the last is not 0, the first of all neither, and there are 16 at most
abbrev pub From : ℕ → List ℕ → Type 0
From i [] = ⊥
From i (d ∷ []) = (i < 16) × (d < 100) × (0 < d)
From i (d ∷ e ∷ es) = (d < 100) × (i ≡ 0 → 0 < d) × From (i + 1) (e ∷ es)

one : (i : ℕ) → i < 16 → Begun (From i) mantissa []
one i h = (1 ∷ [], ((h, omega arith, omega arith), (2 ∷ [], refl)))

pub stop_none : (i : ℕ) → i < 16 → Stops (From i) mantissa [] 0
stop_none i h = (none, omega arith, one i h, λ l. absurd (omega arith))
  where
    none : (ds : List ℕ) → From i ds → Begins (mantissa ds) [] → ⊥
    none [] c b = c
    none (d ∷ ds) c b = let e : ◌≡◌ {A = ℕ} 0 1 = let q = ap length b.1 in omega arith in omega arith

-- a byte that no digit writes here
pub stop_here : (i x : ℕ) (xs : List ℕ) → i < 16 → ((d : ℕ) (ds : List ℕ) → From i (d ∷ ds) → mark d ds ≡ x → ⊥) → Stops (From i) mantissa (x ∷ xs) 0
stop_here i x xs h never = (none, omega arith, one i h, λ l w. begun w.0 w.1.0 w.1.1)
  where
    none : (ds : List ℕ) → From i ds → Begins (mantissa ds) (x ∷ xs) → ⊥
    none [] c b = c
    none (d ∷ ds) c b = never d ds c (begins_cons (mark d ds) x (mantissa ds) xs b).0

    begun : (ds : List ℕ) → From i ds → Begins (x ∷ []) (mantissa ds) → ⊥
    begun [] c b = c
    begun (d ∷ ds) c b = never d ds c (sym (begins_cons x (mark d ds) [] (mantissa ds) b).0)

pub start_last : (i d x : ℕ) (xs : List ℕ) → x ≡ 2 * d → i < 16 → d < 100 → 0 < d → Starts (From i) mantissa (x ∷ xs) (d ∷ []) 1
start_last i d x xs e h k l = ((h, k, l), refl, (xs, ap (λ z. z ∷ xs) (sym e)))

-- a digit before others
module _ (i d x : ℕ) (xs : List ℕ) (e : x ≡ 2 * d + 1) (k : d < 100) (l : i ≡ 0 → 0 < d) where
  pub start_more : (ds : List ℕ) (n : ℕ) → Starts (From (i + 1)) mantissa xs ds n → Starts (From i) mantissa (x ∷ xs) (d ∷ ds) (1 + n)
  start_more [] n s = absurd s.0
  start_more (c ∷ cs) n s = ((k, l, s.0), omega (arith, s.1), cons_begins (2 * d + 1) x (mantissa (c ∷ cs)) xs (sym e) s.2)

  pub stop_more : (p : ℕ) → Stops (From (i + 1)) mantissa xs p → Stops (From i) mantissa (x ∷ xs) (1 + p)
  stop_more p s = (
    none,
    omega (arith, s.1),
    subst (λ (z : ℕ). Begun (From i) mantissa (take z (x ∷ xs))) (let q : suc p ≡ 1 + p = omega arith in q) (some s.2),
    λ h w. let q : 1 + p + 1 ≡ suc (p + 1) = omega arith in
        again (omega arith) w.0 w.1.0 (subst (λ (z : ℕ). Begins (take z (x ∷ xs)) (mantissa w.0)) q w.1.1),
  )
    where
      none : (ds : List ℕ) → From i ds → Begins (mantissa ds) (x ∷ xs) → ⊥
      none [] c b = c
      none (y ∷ []) c b = let q : 2 * y ≡ x = (begins_cons (2 * y) x [] xs b).0 in omega arith
      none (y ∷ z ∷ zs) c b = s.0 (z ∷ zs) c.2 (begins_cons (2 * y + 1) x (mantissa (z ∷ zs)) xs b).1

      some : Begun (From (i + 1)) mantissa (take p xs) → Begun (From i) mantissa (x ∷ take p xs)
      some ([], w) = absurd w.0
      some (z ∷ zs, w) = (d ∷ z ∷ zs, ((k, l, w.0), cons_begins x (2 * d + 1) (take p xs) (mantissa (z ∷ zs)) e w.1))

      again : p < length xs → (ds : List ℕ) → From i ds → Begins (x ∷ take (p + 1) xs) (mantissa ds) → ⊥
      again h [] c b = c
      again h (y ∷ []) c b = let q : x ≡ 2 * y = (begins_cons x (2 * y) (take (p + 1) xs) [] b).0 in omega arith
      again h (y ∷ z ∷ zs) c b = s.3 h (z ∷ zs, (c.2, (begins_cons x (2 * y + 1) (take (p + 1) xs) (mantissa (z ∷ zs)) b).1))

-- the digits of a decimal, and those that follow none
pub from_shape : (i : ℕ) (ds : List ℕ) → From i ds →
    (1 ≤ length ds) × (i + length ds ≤ 16) × ((k : ℕ) → k < length ds → get_or ds k 0 < 100) × (0 < get_or ds (length ds - 1) 0) × (i ≡ 0 → 0 < get_or ds 0 0)
from_shape i [] c = absurd c
from_shape i (d ∷ []) c = (omega arith, omega (arith, c.0), at, c.2, λ z. c.2)
  where
    at : (k : ℕ) → k < 1 → get_or (d ∷ []) k 0 < 100
    at zero h = c.1
    at (suc k) h = absurd (omega arith)
from_shape i (d ∷ e ∷ es) c =
    let r = from_shape (i + 1) (e ∷ es) c.2 in
    (omega arith, omega (arith, r.1), at r.2, let q : length (d ∷ e ∷ es) - 1 ≡ suc (length (e ∷ es) - 1) = omega arith in rw q r.3, c.1)
  where
    at : ((k : ℕ) → k < length (e ∷ es) → get_or (e ∷ es) k 0 < 100) → (k : ℕ) → k < length (d ∷ e ∷ es) → get_or (d ∷ e ∷ es) k 0 < 100
    at r zero h = c.0
    at r (suc k) h = r k (omega arith)

pub shape_from : (i : ℕ) (ds : List ℕ) → 1 ≤ length ds → i + length ds ≤ 16 → ((k : ℕ) → k < length ds → get_or ds k 0 < 100) →
    0 < get_or ds (length ds - 1) 0 → (i ≡ 0 → 0 < get_or ds 0 0) → From i ds
shape_from i [] a b c l f = absurd (omega arith)
shape_from i (d ∷ []) a b c l f = (omega arith, c 0 (omega arith), l)
shape_from i (d ∷ e ∷ es) a b c l f =
    let q : length (d ∷ e ∷ es) - 1 ≡ suc (length (e ∷ es) - 1) = omega arith in
    (c 0 (omega arith), f, shape_from (i + 1) (e ∷ es) (omega arith) (omega arith) (λ k h. c (suc k) (omega arith)) (rw q at l) (λ z. absurd (omega arith)))

pub row_from : (ds : List ℕ) → From 0 ds → Row ds × Trim ds
row_from ds c = let r = from_shape 0 ds c in ((r.0, omega (arith, r.1), r.2), (r.4 refl, r.3))

pub from_row : (ds : List ℕ) → Row ds × Trim ds → From 0 ds
from_row ds r = shape_from 0 ds r.0.0 (omega (arith, r.0.1)) r.0.2 r.1.1 (λ _. r.1.0)

-- behind i digits, what is left decides the whole
abbrev pub Onward : List ℕ → ℕ → List ℕ → Type 0
Onward b i digits =
    ((ds : List ℕ) (n : ℕ) → Starts (From i) mantissa (drop i b) ds n → Starts (From 0) mantissa b (digits ++ ds) (i + n))
    × ((p : ℕ) → Stops (From i) mantissa (drop i b) p → Stops (From 0) mantissa b (i + p))

module _ (b : List ℕ) (i : ℕ) (digits : List ℕ) (d : ℕ) (on : Onward b i digits) (h : i < length b) where
  next : drop i b ≡ get_or b i 0 ∷ drop (i + 1) b
  next = rw add-one (drop-cons b i 0 h)

  pub onward_more : get_or b i 0 ≡ 2 * d + 1 → d < 100 → (i ≡ 0 → 0 < d) → Onward b (i + 1) (digits ++ (d ∷ []))
  onward_more e k l = (
    λ ds n s.
        let q : i + (1 + n) ≡ i + 1 + n = omega arith in
        subst (λ (z : ℕ). Starts (From 0) mantissa b ((digits ++ (d ∷ [])) ++ ds) z) q
        (subst (λ (z : List ℕ). Starts (From 0) mantissa b z (i + (1 + n))) (sym (append_assoc digits (d ∷ []) ds))
        (on.0 (d ∷ ds) (1 + n) (subst (λ (z : List ℕ). Starts (From i) mantissa z (d ∷ ds) (1 + n)) (sym next) (start_more i d (get_or b i 0) (drop (i + 1) b) e k l ds n s)))),
    λ p s.
        let q : i + (1 + p) ≡ i + 1 + p = omega arith in
        subst (λ (z : ℕ). Stops (From 0) mantissa b z) q
        (on.1 (1 + p) (subst (λ (z : List ℕ). Stops (From i) mantissa z (1 + p)) (sym next) (stop_more i d (get_or b i 0) (drop (i + 1) b) e k l p s))),
  )

  pub onward_last : get_or b i 0 ≡ 2 * d → i < 16 → d < 100 → 0 < d → Starts AreDigits mantissa b (digits ++ (d ∷ [])) (i + 1)
  onward_last e w k l =
      let t = on.0 (d ∷ []) 1 (subst (λ (z : List ℕ). Starts (From i) mantissa z (d ∷ []) 1) (sym next) (start_last i d (get_or b i 0) (drop (i + 1) b) e w k l)) in
      (row_from (digits ++ (d ∷ [])) t.0, t.1, t.2)

-- in terms of a decimal's digits
pub onward_stop : (b : List ℕ) (i : ℕ) (digits : List ℕ) → Onward b i digits → Stops (From i) mantissa (drop i b) 0 → Stops AreDigits mantissa b i
onward_stop b i digits on s =
    let z : i + 0 ≡ i = omega arith in
    let t = subst (λ (k : ℕ). Stops (From 0) mantissa b k) z (on.1 0 s) in
    let w = t.2 in (
      λ ds c h. t.0 ds (from_row ds c) h,
      t.1,
      (w.0, (row_from w.0 w.1.0, w.1.1)),
      λ l v. t.3 l (v.0, (from_row v.0 v.1.0, v.1.1)),
    )

-- a byte that is no mark stands for no digit here
pub no_mark : (i x : ℕ) → i < 16 → (Mark i x → ⊥) → (d : ℕ) (ds : List ℕ) → From i (d ∷ ds) → mark d ds ≡ x → ⊥
no_mark i x h bad d [] c e =
    bad (omega (arith, c.1), omega (arith, c.2), λ z. omega (arith, c.2), λ z. let q : x ≡ 2 * d = sym e in rw q (even d))
  where
    even : (d : ℕ) → 2 * d % 2 ≡ 0
    even d = omega arith
no_mark i x h bad d (y ∷ ys) c e =
    let s = from_shape (i + 1) (y ∷ ys) c.2 in
    bad (omega (arith, c.0), omega arith, λ z. let p = c.1 z in omega arith, λ z. absurd (omega (arith, s.1)))

pub here : (b : List ℕ) (i : ℕ) → i < length b → i < 16 → (Mark i (get_or b i 0) → ⊥) → Stops (From i) mantissa (drop i b) 0
here b i h k bad =
    subst (λ (z : List ℕ). Stops (From i) mantissa z 0) (sym (rw add-one (drop-cons b i 0 h)))
    (stop_here i (get_or b i 0) (drop (i + 1) b) k (no_mark i (get_or b i 0) k bad))

pub past : (b : List ℕ) (i : ℕ) → length b ≤ i → i < 16 → Stops (From i) mantissa (drop i b) 0
past b i h k = subst (λ (z : List ℕ). Stops (From i) mantissa z 0) (sym (drop_all i b h)) (stop_none i k)

-- digits of a decimal of a sign, read through its complement if it is negative
mantissa_within : (ds : List ℕ) → AreDigits ds → Bytes (mantissa ds)
mantissa_within ds r = mantissa_bytes ds (All-from_get_or (λ d. d < 100) ds 0 r.0.2)

pub body_starts : (s : Sign) (xs ys : List ℕ) (ds : List ℕ) (n : ℕ) → Through s xs ys → Starts AreDigits mantissa ys ds n → Starts AreDigits (body_of s) xs ds n
body_starts Positive xs ys ds n t r = subst (λ (z : List ℕ). Starts AreDigits mantissa z ds n) t r
body_starts Negative xs ys ds n t r = flip_starts AreDigits mantissa mantissa_within ys xs ds n t.0 r

pub body_stops : (s : Sign) (xs ys : List ℕ) (p : ℕ) → Through s xs ys → Stops AreDigits mantissa ys p → Stops AreDigits (body_of s) xs p
body_stops Positive xs ys p t r = subst (λ (z : List ℕ). Stops AreDigits mantissa z p) t r
body_stops Negative xs ys p t r = flip_stops AreDigits mantissa mantissa_within ys xs p t.0 t.1 r
