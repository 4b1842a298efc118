-- Digits that pass the test of a decimal's making have its shape.
use Rattle.std.proofs.Common.{◌≡◌, ℕ, ◌-◌, ◌<◌, ◌≤◌, true, not, ◌&&◌, eqb, ltb, List, [], ◌∷◌, length, get_or, refl, ap, arith}
use Rattle.std.specs.List.{AllByRecursion, list_all}
use Rattle.std.proofs.lemmas.Bool.{and_parts, eqb-false, not-true, false≢true}
use Rattle.std.proofs.ByRecursion.{All-get_or, Decides-by_and}
use Rattle.std.proofs.lemmas.Bool.Decides.{Decides-ltb}
use Rattle.codes.specs.Decimals.{Row, Trim}
use Rattle.codes.specs.Making.{centimal, plain_digits}

pub centimal_each : (ds : List ℕ) → list_all (λ d. ltb d 100) ds ≡ centimal ds
centimal_each [] = refl
centimal_each (d ∷ ds) = ap (λ t. ltb d 100 && t) (centimal_each ds)

centimal_all : (ds : List ℕ) → centimal ds ≡ true → AllByRecursion (λ d. d < 100) ds
centimal_all ds = (Decides-by_and (λ d. ltb d 100) (λ d. d < 100) centimal (λ d. Decides-ltb d 100) refl (λ _ _. refl) ds).0

not_zero : (d : ℕ) → not (eqb d 0) ≡ true → 0 < d
not_zero d h = let n : d ≡ 0 → ⊥ = eqb-false d 0 (not-true (eqb d 0) h) in omega arith

pub plain_shape : (ds : List ℕ) → plain_digits ds ≡ true → length ds ≤ 16 → Row ds × Trim ds
plain_shape [] h few = absurd (false≢true h)
plain_shape (d ∷ ds) h few =
    let a = and_parts (centimal (d ∷ ds)) (not (eqb d 0) && not (eqb (get_or (d ∷ ds) (length (d ∷ ds) - 1) 0) 0)) h in
    let b = and_parts (not (eqb d 0)) (not (eqb (get_or (d ∷ ds) (length (d ∷ ds) - 1) 0) 0)) a.1 in
    let all = centimal_all (d ∷ ds) a.0 in (
      (omega arith, few, λ k l. All-get_or (λ x. x < 100) (d ∷ ds) k 0 l all),
      (not_zero d b.0, not_zero (get_or (d ∷ ds) (length (d ∷ ds) - 1) 0) b.1),
    )
