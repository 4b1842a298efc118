-- What two strings have in common at the front.
use Rattle.std.proofs.Common.{◌≡◌, ◌≢◌, ℕ, ◌+◌, ◌<◌, List, [], ◌∷◌, Bool, true, false, cond, nat_eq, length, slice_index, refl, sym, subst, arith, suc}
use Rattle.std.proofs.lemmas.Bool.{eqb-true}
use Rattle.std.proofs.lemmas.List.Folds.{length-prefix_len}
use Rattle.std.specs.List.{zip, prefix_len}
use Rattle.separators.specs.Separators.{HaveInCommon, in_common}

-- the pairs from the front on that are equal
abbrev equal_pairs : List ℕ → List ℕ → ℕ
equal_pairs xs ys = prefix_len (λ (p : ℕ × ℕ). nat_eq p.0 p.1) (zip xs ys)

none : (xs ys : List ℕ) → (0 < length xs → 0 < length ys → slice_index xs 0 ≢ slice_index ys 0) → HaveInCommon xs ys 0
none xs ys h = record { in_left = omega arith; in_right = omega arith; same = refl; differ = h }

more : (x y : ℕ) (xs ys : List ℕ) (n : ℕ) → x ≡ y → HaveInCommon xs ys n → HaveInCommon (x ∷ xs) (y ∷ ys) (suc n)
more x y xs ys n e h = record {
  in_left = omega (arith, h.in_left);
  in_right = omega (arith, h.in_right);
  same = let s = h.same in cc;
  differ = λ p q. h.differ (omega arith) (omega arith);
}

next : (x y : ℕ) (xs ys : List ℕ) (n : ℕ) (b : Bool) → nat_eq x y ≡ b → HaveInCommon xs ys n → HaveInCommon (x ∷ xs) (y ∷ ys) (cond b (1 + n) 0)
next x y xs ys n true e h = let s : 1 + n ≡ suc n = omega arith in rw s (more x y xs ys n (eqb-true x y e) h)
next x y xs ys n false e h = none (x ∷ xs) (y ∷ ys) (λ p q r. grind arith)

counted : (xs ys : List ℕ) → HaveInCommon xs ys (equal_pairs xs ys)
counted [] ys = none [] ys (λ h g. omega arith)
counted (x ∷ xs) [] = none (x ∷ xs) [] (λ h g. omega arith)
counted (x ∷ xs) (y ∷ ys) = next x y xs ys (equal_pairs xs ys) (nat_eq x y) refl (counted xs ys)

-- what stands behind the first byte, if that is in common
pub rest_in_common : (x y : ℕ) (xs ys : List ℕ) (n : ℕ) → HaveInCommon (x ∷ xs) (y ∷ ys) (suc n) → (x ≡ y) × HaveInCommon xs ys n
rest_in_common x y xs ys n h =
    let s = h.same in (
      cc,
      record {
        in_left = omega (arith, h.in_left);
        in_right = omega (arith, h.in_right);
        same = cc;
        differ = λ p q. h.differ (omega arith) (omega arith);
      },
    )

pub have_in_common : (xs ys : List ℕ) → HaveInCommon xs ys (in_common xs ys)
have_in_common xs ys =
    subst (λ (m : ℕ). HaveInCommon xs ys m) (sym (length-prefix_len (λ (p : ℕ × ℕ). nat_eq p.0 p.1) (zip xs ys))) (counted xs ys)
