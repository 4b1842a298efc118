-- The test for a byte 00, and the place of the first one.
use Rattle.std.proofs.Common.{◌≡◌, ℕ, ◌<◌, ◌≤◌, zero, suc, Bool, true, false, not, ◌&&◌, eqb, ltb, List, [], ◌∷◌, length, get_or, take, Some, None, Option, refl, ap, ◌∙◌, arith, length-take}
use Rattle.std.proofs.lemmas.List.{get_or-take, take_all}
use Rattle.std.specs.List.{AllWithin, HoldsAt, list_all}
use Rattle.std.specs.Option.{MatchOption}
use Rattle.std.proofs.ByRecursion.{All-from_get_or}
use Rattle.std.proofs.lemmas.Bool.{lt-ltb, ne_eqb}
use Rattle.codes.specs.Strings.{Bytes}
use Rattle.codes.specs.Sources.{FirstZero, see_as, seen_as}
use Rattle.codes.specs.Values.{TextBytes, no_zero}
use Rattle.codes.proofs.Seens.{length_seen, get_or_seen}

same : (x : ℕ) → not (eqb x 0) ≡ ltb 0 x
same zero = refl
same (suc x) =
    let a : eqb (suc x) 0 ≡ false = ne_eqb (suc x) 0 (λ q. omega arith) in
    let b : ltb 0 (suc x) ≡ true = lt-ltb 0 (suc x) (omega arith) in rw (a, b) refl

pub no_zero_all : (xs : List ℕ) → list_all (λ b. not (eqb b 0)) xs ≡ no_zero xs
no_zero_all [] = refl
no_zero_all (x ∷ xs) = ap (λ t. t && list_all (λ b. not (eqb b 0)) xs) (same x) ∙ ap (λ t. ltb 0 x && t) (no_zero_all xs)

-- bytes as they are seen are bytes
seen_byte : (f : Bool) (xs : List ℕ) (i : ℕ) → i < length xs → Bytes xs → see_as f (get_or xs i 0) < 256
seen_byte f [] i h t = absurd (omega arith)
seen_byte false (x ∷ xs) zero h t = t.0
seen_byte true (x ∷ xs) zero h t = omega arith
seen_byte f (x ∷ xs) (suc i) h t = seen_byte f xs i (omega arith) t.1

-- none of the first n bytes is 00
module _ (f : Bool) (xs : List ℕ) (typed : Bytes xs) where
  clean : (n : ℕ) → n ≤ length xs → AllWithin (λ b. see_as f b ≡ 0 → ⊥) xs 0 n → TextBytes (take n (seen_as f xs))
  clean n h none = All-from_get_or (λ b. (0 < b) × (b < 256)) (take n (seen_as f xs)) 0 each
    where
      each : (i : ℕ) → i < length (take n (seen_as f xs)) → (0 < get_or (take n (seen_as f xs)) i 0) × (get_or (take n (seen_as f xs)) i 0 < 256)
      each i l =
          let m = simp length-take at l in
          let k : i < n = omega arith in
          let j : i < length xs = omega (arith, length_seen f xs) in
          let e : get_or (take n (seen_as f xs)) i 0 ≡ see_as f (get_or xs i 0) = get_or-take n (seen_as f xs) i 0 k ∙ get_or_seen f xs i j in
          let z = none i 0 (omega arith) k in
          rw e (omega arith, seen_byte f xs i j typed)

  pub first_zero : (r : Option ℕ) → MatchOption r (AllWithin (λ b. see_as f b ≡ 0 → ⊥) xs 0 (length xs)) (λ i. (i < length xs) × HoldsAt (λ b. see_as f b ≡ 0) xs i × AllWithin (λ b. see_as f b ≡ 0 → ⊥) xs 0 i) →
      FirstZero (seen_as f xs) r
  first_zero None h = rw (take_all (length xs) (seen_as f xs) (omega (arith, length_seen f xs))) at (clean (length xs) (omega arith) h)
  first_zero (Some i) h = (omega (arith, h.0, length_seen f xs), clean i (omega (arith, h.0)) h.2, get_or_seen f xs i h.0 ∙ h.1 0)
