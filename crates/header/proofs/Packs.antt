-- Fields packed in a number, and taken out of it.
use Rattle.std.proofs.Common.{◌≡◌, refl, sym, ap, ◌∙◌, ℕ, ◌+◌, ◌-◌, ◌*◌, ◌/◌, ◌%◌, ◌^◌, ◌<◌, List, [], ◌∷◌, ◌++◌, take, drop, sum, arith}
use Rattle.std.proofs.lemmas.List.Sums.{sum_by-cons}
use Rattle.std.proofs.Math.Nat.{mul_comm, div-div-eq-div-mul, mod-lt, div-add-mod'}
use Rattle.std.proofs.lemmas.Nat.{pow-add, div-mul-add, mod-mul-add, pow_pos}
use Rattle.std.specs.Int.{bytes_high_first}
use Rattle.std.proofs.Math.ListN.{replicate}
use Rattle.header.specs.Packing.{pack, unpack, Within}
use Rattle.header.specs.declared.fields.Fields.{Fields}
use Rattle.header.specs.Fields.{numbers_of}
use Rattle.header.specs.Headers.{widths, packed_page}
use Rattle.header.proofs.Bytes.{behind}

-- the bits of a field and those behind it
bits_more : (w : ℕ) (ws : List ℕ) → 2 ^ sum (w ∷ ws) ≡ 2 ^ sum ws * 2 ^ w
bits_more w ws = ap (λ x. 2 ^ x) (sum_by-cons (λ x. x) w ws) ∙ pow-add 2 w (sum ws) ∙ mul_comm (2 ^ w) (2 ^ sum ws)

-- the fields of a number, packed, are the number
pub repack : (ws : List ℕ) (n : ℕ) → pack (n / 2 ^ sum ws) ws (unpack ws n) ≡ n
repack [] n = let z : n / 1 ≡ n = omega arith in z
repack (w ∷ ws) n =
    let s = 2 ^ sum ws in
    let p = bits_more w ws in
    let d : n / 2 ^ sum (w ∷ ws) ≡ n / s / 2 ^ w = ap (λ x. n / x) p ∙ sym (div-div-eq-div-mul n s (2 ^ w)) in
    let e : n / 2 ^ sum (w ∷ ws) * 2 ^ w + n / s % 2 ^ w ≡ n / s = ap (λ x. x * 2 ^ w + n / s % 2 ^ w) d ∙ div-add-mod' (n / s) (2 ^ w) in
    ap (λ x. pack x ws (unpack ws n)) e ∙ repack ws n

-- what stands above the fields
pub above : (ws vs : List ℕ) (n : ℕ) → Within ws vs → pack n ws vs / 2 ^ sum ws ≡ n
above [] [] n h = let z : n / 1 ≡ n = omega arith in z
above [] (v ∷ vs) n h = absurd h
above (w ∷ ws) [] n h = absurd h
above (w ∷ ws) (v ∷ vs) n h =
    let s = 2 ^ sum ws in
    let m = pack (n * 2 ^ w + v) ws vs in
    let p = bits_more w ws in
    ap (λ x. m / x) p ∙ sym (div-div-eq-div-mul m s (2 ^ w)) ∙ ap (λ x. x / 2 ^ w) (above ws vs (n * 2 ^ w + v) h.1) ∙ div-mul-add n (2 ^ w) v h.0

-- the fields of packed numbers are the numbers
pub unpacked : (ws vs : List ℕ) (n : ℕ) → Within ws vs → unpack ws (pack n ws vs) ≡ vs
unpacked [] [] n h = refl
unpacked [] (v ∷ vs) n h = absurd h
unpacked (w ∷ ws) [] n h = absurd h
unpacked (w ∷ ws) (v ∷ vs) n h =
    let m = pack (n * 2 ^ w + v) ws vs in
    let e : m / 2 ^ sum ws % 2 ^ w ≡ v = ap (λ x. x % 2 ^ w) (above ws vs (n * 2 ^ w + v) h.1) ∙ mod-mul-add n (2 ^ w) v h.0 in
    ap (λ x. x ∷ unpack ws m) e ∙ ap (λ x. v ∷ x) (unpacked ws vs (n * 2 ^ w + v) h.1)

-- each field of a number is within its width
pub within : (ws : List ℕ) (n : ℕ) → Within ws (unpack ws n)
within [] n = tt
within (w ∷ ws) n = (mod-lt (n / 2 ^ sum ws) (pow_pos w), within ws n)

-- three fields in two bytes and ten in sixteen are the packed page
pub halves : (f : Fields) → pack 0 widths (numbers_of f) ≡ pack 0 (take 3 widths) (take 3 (numbers_of f)) * 256 ^ 16 + pack 0 (drop 3 widths) (drop 3 (numbers_of f))
halves f = omega arith

pub page_of_halves : (f : Fields) (len front rest : ℕ) (a b d : List ℕ) → front ≡ pack 0 (take 3 widths) (take 3 (numbers_of f)) → rest ≡ pack 0 (drop 3 widths) (drop 3 (numbers_of f)) → rest < 256 ^ 16
    → a ≡ bytes_high_first 2 front → b ≡ bytes_high_first 16 rest → d ≡ replicate (len - 18) 0 → a ++ b ++ d ≡ packed_page len (numbers_of f)
unfolding packed_page
page_of_halves f len front rest a b d p q l e g h =
    let n : front * 256 ^ 16 + rest ≡ pack 0 widths (numbers_of f) = ap (λ x. x * 256 ^ 16 + rest) p ∙ ap (λ x. pack 0 (take 3 widths) (take 3 (numbers_of f)) * 256 ^ 16 + x) q ∙ sym (halves f) in
    ap (λ x. x ++ b ++ d) e ∙ ap (λ x. bytes_high_first 2 front ++ x ++ d) g ∙ ap (λ x. bytes_high_first 2 front ++ bytes_high_first 16 rest ++ x) h
    ∙ ap (λ x. x ++ replicate (len - 18) 0) (sym (behind 2 16 front rest l)) ∙ ap (λ x. bytes_high_first 18 x ++ replicate (len - 18) 0) n
