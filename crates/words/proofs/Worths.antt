-- What digits in base ten are worth.
use Rattle.std.proofs.Common.{◌≡◌, ℕ, zero, suc, ◌+◌, ◌*◌, ◌/◌, ◌%◌, ◌^◌, ◌<◌, ◌≤◌, List, [], ◌∷◌, ◌++◌, map, length, get_or, take, replicate, ℤ, sym, refl, ap, ◌∙◌, append_assoc, append-nil, mul_assoc, mul_comm, arith}
use native.Mathlib.Nat.{pow-succ'}
use Rattle.std.specs.Int.Digits.{number_from_digits}
use Rattle.std.proofs.lemmas.Int.Digits.{number_push}
use Rattle.std.proofs.lemmas.List.{map_push, take_all, length-append, length-replicate, length_push}
use Rattle.refusals.specs.Answer.{gives}
use Rattle.codes.specs.declared.sign.Sign.{Sign}
use Rattle.codes.specs.Decimals.{Number, amount}
use Rattle.codes.specs.Making.{decimal_answer}
use Rattle.words.specs.Digits.{digit_of, written}
use Rattle.words.proofs.Tenfold.{written_more}

-- zeros in front do not count
pub zeros_front : (z : ℕ) (r : List ℕ) → written (replicate z 48 ++ r) ≡ written r
zeros_front zero r = refl
zeros_front (suc z) r = zeros_front z r

-- a zero behind is a factor of ten
pub zeros_back : (r : List ℕ) (z : ℕ) → written (r ++ replicate z 48) ≡ written r * 10 ^ z
zeros_back r zero = ap written (append-nil r) ∙ omega arith
zeros_back r (suc z) =
    let one : written (r ++ (48 ∷ [])) ≡ written r * 10 = ap (number_from_digits 10) (map_push digit_of r 48) ∙ number_push 10 (map digit_of r) 0 ∙ omega arith in
    ap written (sym (append_assoc r (48 ∷ []) (replicate z 48))) ∙ zeros_back (r ++ (48 ∷ [])) z ∙ ap (λ n. n * 10 ^ z) one
    ∙ mul_assoc (written r) 10 (10 ^ z) ∙ ap (λ n. written r * n) (sym (pow-succ' 10 z))

-- one pair more
pub pair_more : (ds items after : List ℕ) (i a b x : ℕ) → 2 * i + 1 < length ds → number_from_digits 100 items ≡ written (take (2 * i) ds) → length items ≡ i →
    a ≡ digit_of (get_or ds (2 * i) 0) → b ≡ digit_of (get_or ds (2 * i + 1) 0) → x ≡ a * 10 + b → after ≡ items ++ (x ∷ []) →
    (number_from_digits 100 after ≡ written (take (2 * (i + 1)) ds)) × (length after ≡ i + 1)
pair_more ds items after i a b x h e n p q s pushed =
    let up : 2 * (i + 1) ≡ 2 * i + 1 + 1 = omega arith in (
      ap (number_from_digits 100) pushed ∙ number_push 100 items x
          ∙ omega (arith, e, p, q, s, written_more ds (2 * i) (omega arith), written_more ds (2 * i + 1) h, ap (λ k. written (take k ds)) up),
      ap length pushed ∙ length_push items x ∙ ap (λ k. k + 1) n,
    )

-- the padded digits, in pairs
pub padded_worth : (ds a b p v : List ℕ) (front z : ℕ) → a ≡ replicate front 48 → b ≡ a ++ ds → z ≡ length b % 2 → p ≡ b ++ replicate z 48 →
    number_from_digits 100 v ≡ written (take (2 * (length p / 2)) p) → length v ≡ length p / 2 →
    (k : ℕ) × (number_from_digits 100 v ≡ written ds * 10 ^ k) × (2 * length v ≡ front + length ds + k)
padded_worth ds a b p v front z ea eb ez ep num len =
    let lb : length b ≡ front + length ds = ap length (eb ∙ ap (λ l. l ++ ds) ea) ∙ length-append (replicate front 48) ds ∙ ap (λ k. k + length ds) (length-replicate front 48) in
    let lp : length p ≡ length b + z = ap length ep ∙ length-append b (replicate z 48) ∙ ap (λ k. length b + k) (length-replicate z 48) in
    let even : length p ≤ 2 * (length p / 2) = omega arith in
    let whole : written p ≡ written ds * 10 ^ z =
    ap written ep ∙ zeros_back b z ∙ ap (λ l. written l * 10 ^ z) (eb ∙ ap (λ l. l ++ ds) ea) ∙ ap (λ n. n * 10 ^ z) (zeros_front front ds) in
    (z, num ∙ ap written (take_all (2 * (length p / 2)) p even) ∙ whole, omega arith)

-- a decimal that is made has the parts that it is made of
pub made_of : (s : Sign) (e : ℤ) (cs : List ℕ) (n : Number) → gives n ≡ decimal_answer s e cs → n ≡ amount s e cs
made_of s e cs n h = grind arith

-- two ways to take zeros from the same digits
pub crossed : (m n k z t : ℕ) → m ≡ k * 10 ^ t → n ≡ k * 10 ^ z → m * 10 ^ z ≡ n * 10 ^ t
crossed m n k z t p q =
    ap (λ x. x * 10 ^ z) p ∙ mul_assoc k (10 ^ t) (10 ^ z) ∙ ap (λ x. k * x) (mul_comm (10 ^ t) (10 ^ z)) ∙ sym (mul_assoc k (10 ^ z) (10 ^ t)) ∙ ap (λ x. x * 10 ^ t) (sym q)
