-- Numbers written in base ten.
use Rattle.std.proofs.Common.{◌≡◌, ℕ, suc, ◌+◌, ◌-◌, ◌*◌, ◌^◌, ◌<◌, ◌≤◌, List, [], ◌∷◌, ◌++◌, map, length, get_or, take, drop, replicate, sym, ap, ◌∙◌, append_assoc, arith}
use native.Mathlib.Nat.{pow-le-pow_right}
use Rattle.std.proofs.lemmas.Bool.Decides.{nat_tests}
use Rattle.std.specs.Int.Digits.{number_from_digits, AllBelowBase}
use Rattle.std.proofs.lemmas.Int.Digits.{number_lt, number_push}
use Rattle.std.proofs.lemmas.List.{length-map, map_more, replicate_more, take_more, take_all}
use Rattle.words.specs.Digits.{digit_of, written}
use Rattle.words.proofs.Texts.{headed}

digit_lt : (b : ℕ) → digit_of b < 10
digit_lt b = grind (arith, nat_tests)

under : (bs : List ℕ) → AllBelowBase 10 (map digit_of bs)
under [] = tt
under (b ∷ bs) = (digit_lt b, under bs)

-- k digits write less than the k-th power of ten
pub written_lt : (bs : List ℕ) (k : ℕ) → length bs ≤ k → written bs < 10 ^ k
written_lt bs k h =
    let a = number_lt 10 (map digit_of bs) (under bs) in
    let b : 10 ^ length bs ≤ 10 ^ k = pow-le-pow_right (omega arith) h in
    let e = ap (λ n. 10 ^ n) (length-map bs digit_of) in
    omega (arith, a, b, e)

pub written_more : (bs : List ℕ) (i : ℕ) → i < length bs → written (take (i + 1) bs) ≡ written (take i bs) * 10 + digit_of (get_or bs i 0)
written_more bs i h = ap (number_from_digits 10) (map_more digit_of bs i 0 h) ∙ number_push 10 (map digit_of (take i bs)) (digit_of (get_or bs i 0))

-- one zero less in front
pub front_more : (all ds : List ℕ) (z : ℕ) → 0 < length ds → get_or ds 0 0 ≡ 48 → all ≡ replicate z 48 ++ ds →
    (x : ℕ) × (all ≡ replicate x 48 ++ take (length ds - 1) (drop 1 ds))
front_more all ds z h e zeros = (
  z + 1,
  zeros ∙ ap (λ l. replicate z 48 ++ l) (sym (headed ds 48 h e)) ∙ sym (append_assoc (replicate z 48) (48 ∷ []) (take (length ds - 1) (drop 1 ds)))
      ∙ ap (λ l. l ++ take (length ds - 1) (drop 1 ds)) (replicate_more z 48),
)

-- one zero less behind
pub back_more : (all ds : List ℕ) (z : ℕ) → 0 < length ds → get_or ds (length ds - 1) 0 ≡ 48 → all ≡ ds ++ replicate z 48 →
    (x : ℕ) × (all ≡ take (length ds - 1) ds ++ replicate x 48)
back_more all ds z h e zeros =
    let n = length ds - 1 in
    let whole : ds ≡ take n ds ++ (48 ∷ []) = sym (take_all (n + 1) ds (omega arith)) ∙ take_more ds n 0 (omega arith) ∙ ap (λ b. take n ds ++ (b ∷ [])) e in
    (suc z, zeros ∙ ap (λ l. l ++ replicate z 48) whole ∙ append_assoc (take n ds) (48 ∷ []) (replicate z 48))
