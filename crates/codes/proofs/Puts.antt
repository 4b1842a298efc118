-- Writes to the front of an output.
use Rattle.std.proofs.Common.{◌≡◌, ℕ, suc, ◌+◌, ◌-◌, ◌<◌, ◌≤◌, List, [], ◌∷◌, ◌++◌, length, get_or, drop, set, sym, ap, ◌∙◌, append_assoc, arith, drop-cons}
use borrow.Rule.Slice.PartMut.{put_mid}
use Rattle.std.proofs.lemmas.List.{length-map, set_at}
use Rattle.codes.specs.Strings.{flip, flipped}

pub length_flipped : (xs : List ℕ) → length (flipped xs) ≡ length xs
length_flipped xs = length-map xs flip

-- bytes between a first and a last one
pub put_framed : (out bytes last : List ℕ) (n : ℕ) → n ≡ length bytes → n + 2 ≤ length out → last ≡ bytes →
    set (put_mid 1 (n + 1 - 1) (set out 0 0x24) last) (n + 1) 0 ≡ 0x24 ∷ ((bytes ++ (0 ∷ [])) ++ drop (n + 2) out)
put_framed [] bytes last n k h f = absurd (omega arith)
put_framed (x ∷ xs) bytes last n k h f =
    let a : n + 1 - 1 ≡ n = omega arith in
    let b : n + 1 ≡ suc n = omega arith in
    let c : n + 2 ≡ suc (suc n) = omega arith in
    let l : n < length xs = omega arith in
    rw (a, b, c, f)
    (ap (λ z. 0x24 ∷ z)
    (ap (λ z. set (bytes ++ z) n 0) (drop-cons xs n 0 l) ∙ set_at bytes (get_or xs n 0) (drop (suc n) xs) 0 n (sym k)
    ∙ sym (append_assoc bytes (0 ∷ []) (drop (suc n) xs))))
