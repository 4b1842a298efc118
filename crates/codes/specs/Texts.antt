-- Proofs on texts: bytes, none of which is 0, and then a 0.
use Rattle.std.specs.Prelude.{◌≡◌, ℕ, ◌<◌, ◌⊎◌, List, [], ◌∷◌, ◌++◌, refl}
use Rattle.std.proofs.Common.{sym, inl, inr, arith}
use Rattle.std.proofs.lemmas.Bool.{cases_order}
use Rattle.std.specs.List.{AllByRecursion}
use Rattle.codes.specs.Strings.{Less, Bytes}
use Rattle.codes.specs.Values.{TextBytes}
use Rattle.codes.specs.Codes.{text_code}
use Rattle.codes.specs.Laws.{Laws}
use Rattle.codes.specs.Orders.{Parts, laws_from_parts, bytes_append}

pub less_total : (a b : List ℕ) → Less a b ⊎ ((a ≡ b) ⊎ Less b a)
less_total [] [] = inr (inl refl)
less_total [] (y ∷ ys) = inl tt
less_total (x ∷ xs) [] = inr (inr tt)
less_total (x ∷ xs) (y ∷ ys) =
    elim (cases_order x y) [
      | inl e ↦ elim (less_total xs ys) [
        | inl h ↦ inl (inr (e, h))
        | inr q ↦ elim q [ inl f ↦ inr (inl (cc)) | inr h ↦ inr (inr (inr (sym e, h))) ]
      ]
      | inr r ↦ elim r [ inl h ↦ inl (inl h) | inr h ↦ inr (inr (inl h)) ]
    ]

abbrev NoZero : List ℕ → Type 0
NoZero t = AllByRecursion (λ x. 0 < x) t

ended : (a b : List ℕ) → NoZero a → NoZero b → Less a b → Parts (a ++ (0 ∷ [])) (b ++ (0 ∷ []))
ended [] [] s t h = absurd h
ended [] (y ∷ ys) s t h = inl t.0
ended (x ∷ xs) [] s t h = absurd h
ended (x ∷ xs) (y ∷ ys) s t (inl h) = inl h
ended (x ∷ xs) (y ∷ ys) s t (inr h) = inr (h.0, ended xs ys s.1 t.1 h.1)

split : (t : List ℕ) → TextBytes t → NoZero t × Bytes t
split [] h = (tt, tt)
split (x ∷ xs) h = let r = split xs h.1 in ((h.0.0, r.0), (h.0.1, r.1))

pub text_laws : Laws TextBytes text_code Less
text_laws =
    laws_from_parts (λ t c. (omega arith, bytes_append t (0 ∷ []) (split t c).1 (omega arith, tt)))
    (λ s t c d. less_total s t) (λ s t c d h. inr (refl, ended s t (split s c).0 (split t d).0 h))
