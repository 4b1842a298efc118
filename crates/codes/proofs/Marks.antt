-- The bytes of digits, written one by one, and the lengths of codes.
use Rattle.std.proofs.Common.{◌≡◌, ℕ, zero, suc, ◌+◌, ◌-◌, ◌*◌, ◌<◌, ◌≤◌, Bool, true, false, cond, ltb, List, [], ◌∷◌, ◌++◌, length, get_or, take, set, ℤ, pos, negsuc, sym, refl, ap, ◌∙◌, inl, inr, arith, length-append}
use Rattle.std.proofs.lemmas.Bool.{cases_lt, lt-ltb, le-ltb}
use Rattle.std.proofs.lemmas.List.{take_more, take_more_set}
use mir.Val.{bool_byte}
use Rattle.codes.specs.declared.sign.Sign.{Sign}
use Rattle.codes.specs.declared.sign.Sign.TheVariants.{Negative, Positive}
use Rattle.codes.specs.Decimals.{amount}
use Rattle.codes.specs.Codes.{mantissa, lead_of, body_of, number_code}
use Rattle.codes.proofs.Puts.{length_flipped}

pub length_mantissa : (ds : List ℕ) → length (mantissa ds) ≡ length ds
length_mantissa [] = refl
length_mantissa (d ∷ ds) = ap suc (length_mantissa ds)

pub length_body : (s : Sign) (ds : List ℕ) → length (body_of s ds) ≡ length ds
length_body Negative ds = length_flipped (mantissa ds) ∙ length_mantissa ds
length_body Positive ds = length_mantissa ds

length_lead : (s : Sign) (e : ℤ) → length (lead_of s e) ≡ length (lead_of Positive e)
length_lead Positive e = refl
length_lead Negative (negsuc k) = refl
length_lead Negative (pos n) = at (ltb n 11)
  where
    at : (b : Bool) → length (cond b ((0x13 - n) ∷ []) (0x08 ∷ (255 - n) ∷ [])) ≡ length (cond b ((0x17 + n) ∷ []) (0x22 ∷ n ∷ []))
    at true = refl
    at false = refl

pub lead_short : (e : ℤ) → length (lead_of Positive e) ≤ 2
lead_short (negsuc k) = omega arith
lead_short (pos n) = at (ltb n 11)
  where
    at : (b : Bool) → length (cond b ((0x17 + n) ∷ []) (0x22 ∷ n ∷ [])) ≤ 2
    at true = omega arith
    at false = omega arith

pub length_amount : (s : Sign) (e : ℤ) (ds : List ℕ) → length (number_code (amount s e ds)) ≡ length (lead_of Positive e) + length ds
length_amount s e ds = omega (arith, length-append (lead_of s e) (body_of s ds), length_lead s e, length_body s ds)

pub mark_at : (ds : List ℕ) (i : ℕ) → i < length ds →
    (i < length ds - 1 → get_or (mantissa ds) i 0 ≡ 2 * get_or ds i 0 + 1) × (length ds - 1 ≤ i → get_or (mantissa ds) i 0 ≡ 2 * get_or ds i 0)
mark_at [] i h = absurd (omega arith)
mark_at (d ∷ []) zero h = (λ l. absurd (omega arith), λ l. refl)
mark_at (d ∷ []) (suc i) h = absurd (omega arith)
mark_at (d ∷ e ∷ es) zero h = (λ l. refl, λ l. absurd (omega arith))
mark_at (d ∷ e ∷ es) (suc i) h =
    let r = mark_at (e ∷ es) i (omega arith) in (λ l. r.0 (omega arith), λ l. r.1 (omega arith))

-- the byte of a digit: one more than twice the digit where another one follows
pub mark_byte : (ds : List ℕ) (i r : ℕ) → i < length ds → r ≡ bool_byte (ltb i (length ds - 1)) → 2 * get_or ds i 0 + r ≡ get_or (mantissa ds) i 0
mark_byte ds i r h e =
    let m = mark_at ds i h in
    elim (cases_lt i (length ds - 1)) [
      | inl l ↦ let t : ltb i (length ds - 1) ≡ true = lt-ltb i (length ds - 1) l in let q : r ≡ 1 = rw t at e in omega (arith, m.0 l)
      | inr l ↦ let t : ltb i (length ds - 1) ≡ false = le-ltb i (length ds - 1) l in let q : r ≡ 0 = rw t at e in omega (arith, m.1 l)
    ]

-- one byte more of the mantissa
pub marked : (ds out : List ℕ) (i b : ℕ) → i < length ds → length out ≡ length ds → take i out ≡ take i (mantissa ds) → b ≡ get_or (mantissa ds) i 0 →
    take (i + 1) (set out i b) ≡ take (i + 1) (mantissa ds)
marked ds out i b h k inv f =
    let l : i < length (mantissa ds) = omega (arith, length_mantissa ds) in
    take_more_set out i b (omega arith) ∙ ap (λ z. z ++ (b ∷ [])) inv ∙ ap (λ z. take i (mantissa ds) ++ (z ∷ [])) f ∙ sym (take_more (mantissa ds) i 0 l)
