-- Proofs: the order of decimal numbers is that of their bytes.
use Rattle.std.specs.Prelude.{◌≡◌, ℕ, zero, suc, ◌+◌, ◌-◌, ◌*◌, ◌^◌, ◌<◌, ◌≤◌, Bool, true, false, cond, ◌⊎◌, List, [], ◌∷◌, ◌++◌, length, ℤ, pos, negsuc, nat_lt, slice_index, refl}
use Rattle.std.proofs.Common.{ap, subst, inl, inr, arith}
use Rattle.std.proofs.Math.Nat.{pow-le-pow_right}
use Rattle.std.proofs.lemmas.Bool.{cases_order, ltb-true, ltb-false}
use Rattle.std.proofs.ByRecursion.{All-from_get_or}
use Rattle.std.proofs.lemmas.Int.{ints}
use Rattle.std.specs.Int.Digits.{number_from_digits}
use Rattle.codes.specs.declared.sign.Sign.TheVariants.{Negative, Positive}
use Rattle.codes.specs.Strings.{Bytes, flipped}
use Rattle.codes.specs.Laws.{Laws}
use Rattle.codes.specs.Decimals.{Number, naught, amount, raised, Smaller, Shape, Range, Shaped}
use Rattle.codes.specs.Codes.{mantissa, lead_of, number_code}
use Rattle.codes.specs.Digits.{Under, place, place_lt, place_ge, Ends, digits_part, digits_same, number_at}
use Rattle.codes.specs.Orders.{Parts, parts_append, parts_trans, parts_after, parts_flipped, laws_from_parts, bytes_append, flipped_bytes}

-- the exponent's bytes rise with it, above zero, and fall below
up : (b c : Bool) (m n : ℕ) → (b ≡ true → m < 11) → (b ≡ false → 11 ≤ m) → (c ≡ true → n < 11) → (c ≡ false → 11 ≤ n) → m < n → n ≤ 240 →
    Parts (cond b ((23 + m) ∷ []) (34 ∷ m ∷ [])) (cond c ((23 + n) ∷ []) (34 ∷ n ∷ []))
    × Parts (cond c ((19 - n) ∷ []) (8 ∷ (255 - n) ∷ [])) (cond b ((19 - m) ∷ []) (8 ∷ (255 - m) ∷ []))
up true true m n a b c d l h = (inl (omega arith), inl (omega (arith, c refl)))
up true false m n a b c d l h = (inl (omega (arith, a refl)), inl (omega (arith, a refl)))
up false true m n a b c d l h = absurd (omega (arith, b refl, c refl))
up false false m n a b c d l h = (inr (refl, inl l), inr (refl, inl (omega arith)))

over : (c : Bool) (n : ℕ) (x y : ℕ) → (c ≡ true → n < 11) →
    Parts (22 ∷ x ∷ []) (cond c ((23 + n) ∷ []) (34 ∷ n ∷ [])) × Parts (cond c ((19 - n) ∷ []) (8 ∷ (255 - n) ∷ [])) (20 ∷ y ∷ [])
over true n x y h = (inl (omega arith), inl (omega arith))
over false n x y h = (inl (omega arith), inl (omega arith))

pub exponents : (e f : ℤ) → Range e → Range f → raised e < raised f → Parts (lead_of Positive e) (lead_of Positive f) × Parts (lead_of Negative f) (lead_of Negative e)
exponents (pos m) (pos n) r s l =
    up (nat_lt m 11) (nat_lt n 11) m n (ltb-true m 11) (ltb-false m 11) (ltb-true n 11) (ltb-false n 11) (omega arith) (omega arith)
exponents (pos m) (negsuc n) r s l = absurd (omega arith)
exponents (negsuc m) (pos n) r s l = over (nat_lt n 11) n (255 - (m + 1)) (m + 1) (ltb-true n 11)
exponents (negsuc m) (negsuc n) r s l =
    let q : m ≤ 239 = omega arith in (inr (refl, inl (omega arith)), inr (refl, inl (omega arith)))

pub raised_same : (e f : ℤ) → Range e → Range f → raised e ≡ raised f → e ≡ f
raised_same (pos m) (pos n) r s h = ap pos (omega arith)
raised_same (pos m) (negsuc n) r s h = absurd (omega arith)
raised_same (negsuc m) (pos n) r s h = absurd (omega arith)
raised_same (negsuc m) (negsuc n) r s h =
    let q : m ≤ 239 = omega arith in let t : n ≤ 239 = omega arith in ap negsuc (omega arith)

pub raised_ge : (e : ℤ) → Range e → 16 ≤ raised e
raised_ge (pos m) r = omega arith
raised_ge (negsuc m) r = let q : m ≤ 239 = omega arith in omega arith

ends_from : (d : ℕ) (ds : List ℕ) → 0 < slice_index (d ∷ ds) (length (d ∷ ds) - 1) → Ends d ds
ends_from d [] h = h
ends_from d (e ∷ es) h =
    let q : length (d ∷ e ∷ es) - 1 ≡ suc (length (e ∷ es) - 1) = omega arith in ends_from e es (rw q at h)

under_from : (e : ℤ) (ds : List ℕ) → Shape e ds → Under ds
under_from e ds s = All-from_get_or (λ d. d < 100) ds 0 s.row.2

range_from : (e : ℤ) (ds : List ℕ) → Shape e ds → Range e
range_from e ds s = s.range

-- an amount's size, times 100^256
abbrev size : ℤ → List ℕ → ℕ
size e ds = number_from_digits 100 ds * 100 ^ (raised e - length ds)

size_is : (e : ℤ) (ds : List ℕ) → Shape e ds → size e ds ≡ place ds (raised e)
size_is e ds s = number_at ds (raised e) (omega (arith, s.row.1, raised_ge e (range_from e ds s)))

-- the exponent decides first
far : (ds es : List ℕ) (p q : ℕ) → 0 < slice_index ds 0 → Under es → q < p → place es q < place ds p
far [] es p q h u l = absurd (omega arith)
far (d ∷ ds) es zero q h u l = absurd (omega arith)
far (d ∷ ds) es (suc p) q h u l =
    let m : q ≤ p = omega arith in
    omega (arith, place_lt es q u, place_ge d ds p h, pow-le-pow_right {n = 100} (omega arith) m)

size_pos : (e : ℤ) (ds : List ℕ) → Shape e ds → 0 < size e ds
size_pos e ds s =
    omega (arith, size_is e ds s, far ds [] (raised e) 0 s.trim.0 tt (omega (arith, raised_ge e (range_from e ds s))))

pub sizes : (e f : ℤ) (ds es : List ℕ) → Shape e ds → Shape f es → size e ds < size f es →
    (raised e < raised f) ⊎ ((e ≡ f) × Parts (mantissa ds) (mantissa es))
sizes e f ds es s t h =
    let l : place ds (raised e) < place es (raised f) = omega (arith, size_is e ds s, size_is f es t) in
    elim (cases_order (raised e) (raised f)) [
      | inl q ↦ inr (
        raised_same e f (range_from e ds s) (range_from f es t) q,
        digits_part ds es (raised f) s.row.0 (under_from e ds s) (under_from f es t) (subst (λ (p : ℕ). place ds p < place es (raised f)) q l),
      )
      | inr r ↦ elim r [
        | inl m ↦ inl m
        | inr m ↦ absurd (omega (arith, far ds es (raised e) (raised f) s.trim.0 (under_from f es t) m))
      ]
    ]

pub sizes_same : (e f : ℤ) (ds es : List ℕ) → Shape e ds → Shape f es → size e ds ≡ size f es → (e ≡ f) × (ds ≡ es)
sizes_same e f [] es s t h = absurd (omega (arith, s.row.0))
sizes_same e f (x ∷ xs) [] s t h = absurd (omega (arith, t.row.0))
sizes_same e f (x ∷ xs) (y ∷ ys) s t h =
    let l : place (x ∷ xs) (raised e) ≡ place (y ∷ ys) (raised f) = omega (arith, size_is e (x ∷ xs) s, size_is f (y ∷ ys) t) in
    let u = under_from e (x ∷ xs) s in
    let w = under_from f (y ∷ ys) t in
    elim (cases_order (raised e) (raised f)) [
      | inl q ↦ (
        raised_same e f (range_from e (x ∷ xs) s) (range_from f (y ∷ ys) t) q,
        let d = digits_same x y xs ys (raised f) u w (ends_from x xs s.trim.1) (ends_from y ys t.trim.1)
            (omega (arith, s.row.1, raised_ge f (range_from f (y ∷ ys) t))) (omega (arith, t.row.1, raised_ge f (range_from f (y ∷ ys) t)))
            (subst (λ (p : ℕ). place (x ∷ xs) p ≡ place (y ∷ ys) (raised f)) q l) in
            let a = d.0 in let b = d.1 in cc,
      )
      | inr r ↦ elim r [
        | inl m ↦ absurd (omega (arith, far (y ∷ ys) (x ∷ xs) (raised f) (raised e) t.trim.0 u m))
        | inr m ↦ absurd (omega (arith, far (x ∷ xs) (y ∷ ys) (raised e) (raised f) s.trim.0 w m))
      ]
    ]

-- zero stands between
pub middle : (e : ℤ) → Range e → Parts (21 ∷ []) (lead_of Positive e) × Parts (lead_of Negative e) (21 ∷ [])
middle (negsuc k) r = (inl (omega arith), inl (omega arith))
middle (pos n) r = at (nat_lt n 11)
  where
    at : (b : Bool) → Parts (21 ∷ []) (cond b ((23 + n) ∷ []) (34 ∷ n ∷ [])) × Parts (cond b ((19 - n) ∷ []) (8 ∷ (255 - n) ∷ [])) (21 ∷ [])
    at true = (inl (omega arith), inl (omega arith))
    at false = (inl (omega arith), inl (omega arith))

pub mantissa_bytes : (ds : List ℕ) → Under ds → Bytes (mantissa ds)
mantissa_bytes [] u = tt
mantissa_bytes (d ∷ []) u = (omega (arith, u.0), tt)
mantissa_bytes (d ∷ e ∷ es) u = (omega (arith, u.0), mantissa_bytes (e ∷ es) u.1)

exponent_bytes : (e : ℤ) → Range e → Bytes (lead_of Positive e) × Bytes (lead_of Negative e)
exponent_bytes (negsuc k) r = let q : k ≤ 239 = omega arith in ((omega arith, (omega arith, tt)), (omega arith, (omega arith, tt)))
exponent_bytes (pos n) r = at (nat_lt n 11) (ltb-true n 11) (omega arith)
  where
    at : (b : Bool) → (b ≡ true → n < 11) → n ≤ 240 → Bytes (cond b ((23 + n) ∷ []) (34 ∷ n ∷ [])) × Bytes (cond b ((19 - n) ∷ []) (8 ∷ (255 - n) ∷ []))
    at true h l = ((omega (arith, h refl), tt), (omega arith, tt))
    at false h l = ((omega arith, (omega arith, tt)), (omega arith, (omega arith, tt)))

pub code_bytes : (a : Number) → Shaped a → Bytes (number_code a)
code_bytes naught s = (omega arith, tt)
code_bytes (amount Positive e ds) s =
    bytes_append (lead_of Positive e) (mantissa ds) (exponent_bytes e (range_from e ds s)).0 (mantissa_bytes ds (under_from e ds s))
code_bytes (amount Negative e ds) s =
    bytes_append (lead_of Negative e) (flipped (mantissa ds)) (exponent_bytes e (range_from e ds s)).1 (flipped_bytes (mantissa ds))

pub numbers_part : (a b : Number) → Shaped a → Shaped b → Smaller a b → Parts (number_code a) (number_code b)
numbers_part naught naught s t h = absurd (omega (arith, ints))
numbers_part naught (amount Positive f es) s t h = parts_append (21 ∷ []) (lead_of Positive f) [] (mantissa es) (middle f (range_from f es t)).0
numbers_part naught (amount Negative f es) s t h = absurd (omega (arith, ints))
numbers_part (amount Positive e ds) naught s t h = absurd (omega (arith, ints))
numbers_part (amount Negative e ds) naught s t h = parts_append (lead_of Negative e) (21 ∷ []) (flipped (mantissa ds)) [] (middle e (range_from e ds s)).1
numbers_part (amount Positive e ds) (amount Negative f es) s t h = absurd (omega (arith, ints))
numbers_part (amount Negative e ds) (amount Positive f es) s t h =
    parts_append (lead_of Negative e) (lead_of Positive f) (flipped (mantissa ds)) (mantissa es)
    (parts_trans (lead_of Negative e) (21 ∷ []) (lead_of Positive f) (middle e (range_from e ds s)).1 (middle f (range_from f es t)).0)
numbers_part (amount Positive e ds) (amount Positive f es) s t h =
    elim (sizes e f ds es s t (omega (arith, ints))) [
      | inl l ↦ parts_append (lead_of Positive e) (lead_of Positive f) (mantissa ds) (mantissa es) (exponents e f (range_from e ds s) (range_from f es t) l).0
      | inr q ↦ subst (λ (z : ℤ). Parts (lead_of Positive e ++ mantissa ds) (lead_of Positive z ++ mantissa es)) q.0 (parts_after (lead_of Positive e) (mantissa ds) (mantissa es) q.1)
    ]
numbers_part (amount Negative e ds) (amount Negative f es) s t h =
    elim (sizes f e es ds t s (omega (arith, ints))) [
      | inl l ↦ parts_append (lead_of Negative e) (lead_of Negative f) (flipped (mantissa ds)) (flipped (mantissa es)) (exponents f e (range_from f es t) (range_from e ds s) l).1
      | inr q ↦ subst (λ (z : ℤ). Parts (lead_of Negative z ++ flipped (mantissa ds)) (lead_of Negative f ++ flipped (mantissa es))) q.0
          (parts_after (lead_of Negative f) (flipped (mantissa ds)) (flipped (mantissa es))
          (parts_flipped (mantissa es) (mantissa ds) (mantissa_bytes es (under_from f es t)) (mantissa_bytes ds (under_from e ds s)) q.1))
    ]

pub numbers_total : (a b : Number) → Shaped a → Shaped b → Smaller a b ⊎ ((a ≡ b) ⊎ Smaller b a)
numbers_total naught naught s t = inr (inl refl)
numbers_total naught (amount Positive f es) s t = inl (omega (arith, ints, size_pos f es t))
numbers_total naught (amount Negative f es) s t = inr (inr (omega (arith, ints, size_pos f es t)))
numbers_total (amount Positive e ds) naught s t = inr (inr (omega (arith, ints, size_pos e ds s)))
numbers_total (amount Negative e ds) naught s t = inl (omega (arith, ints, size_pos e ds s))
numbers_total (amount Positive e ds) (amount Negative f es) s t = inr (inr (omega (arith, ints, size_pos e ds s, size_pos f es t)))
numbers_total (amount Negative e ds) (amount Positive f es) s t = inl (omega (arith, ints, size_pos e ds s, size_pos f es t))
numbers_total (amount Positive e ds) (amount Positive f es) s t =
    elim (cases_order (size e ds) (size f es)) [
      | inl q ↦ inr (inl (let r = sizes_same e f ds es s t q in let a = r.0 in let b = r.1 in cc))
      | inr r ↦ elim r [ inl l ↦ inl (omega (arith, ints)) | inr l ↦ inr (inr (omega (arith, ints))) ]
    ]
numbers_total (amount Negative e ds) (amount Negative f es) s t =
    elim (cases_order (size e ds) (size f es)) [
      | inl q ↦ inr (inl (let r = sizes_same e f ds es s t q in let a = r.0 in let b = r.1 in cc))
      | inr r ↦ elim r [ inl l ↦ inr (inr (omega (arith, ints))) | inr l ↦ inl (omega (arith, ints)) ]
    ]

pub number_laws : Laws Shaped number_code Smaller
number_laws = laws_from_parts code_bytes numbers_total numbers_part
