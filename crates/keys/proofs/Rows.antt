-- Keys keep the order of records.
use Rattle.std.proofs.Common.{◌≡◌, ℕ, ◌⊎◌, List, [], ◌∷◌, ◌++◌, refl, ap, subst, inl, inr, arith}
use Rattle.std.specs.List.{AllByRecursion}
use Rattle.std.proofs.lemmas.Int.{ints}
use Rattle.keys.specs.declared.direction.Direction.{Direction}
use Rattle.keys.specs.declared.direction.Direction.TheVariants.{Ascending, Descending}
use Rattle.codes.specs.Strings.{Less}
use Rattle.codes.specs.Values.{Datum, null, decimal, text, Valid, Even}
use Rattle.keys.specs.Records.{code_in, EarlierIn, key, IsRecord, Precedes, Equals, KeyOrder}
use Rattle.codes.specs.Orders.{Parts, parts, parts_less, parts_append, parts_after, less_irrefl, less_asym, descending}
use Rattle.codes.specs.Numbers.{numbers_total}
use Rattle.codes.specs.Laws.{Laws}
use Rattle.codes.specs.Data.{datum_laws}

-- a column's code keeps the laws in either direction
pub column_laws : (c : Direction) → Laws Valid (code_in c) (EarlierIn c)
column_laws Ascending = datum_laws
column_laws Descending = descending datum_laws

even_refl : (a : Datum) → Even a a
even_refl null = tt
even_refl (decimal n) = refl
even_refl (text t) = refl

-- values of equal worth are one value
even_same : (a b : Datum) → Valid a → Valid b → Even a b → a ≡ b
even_same null null u v e = refl
even_same null (decimal n) u v e = absurd e
even_same null (text t) u v e = absurd e
even_same (decimal m) null u v e = absurd e
even_same (decimal m) (decimal n) u v e =
    elim (numbers_total m n u v) [
      | inl l ↦ absurd (omega (arith, ints))
      | inr r ↦ elim r [ inl q ↦ ap decimal q | inr l ↦ absurd (omega (arith, ints)) ]
    ]
even_same (decimal m) (text t) u v e = absurd e
even_same (text s) null u v e = absurd e
even_same (text s) (decimal n) u v e = absurd e
even_same (text s) (text t) u v e = ap text e

pub equals_refl : (r : List Datum) → Equals r r
equals_refl [] = tt
equals_refl (a ∷ r) = (even_refl a, equals_refl r)

pub equals_same : (r s : List Datum) → AllByRecursion Valid r → AllByRecursion Valid s → Equals r s → r ≡ s
equals_same [] [] u v e = refl
equals_same [] (b ∷ s) u v e = absurd e
equals_same (a ∷ r) [] u v e = absurd e
equals_same (a ∷ r) (b ∷ s) u v e =
    let p = even_same a b u.0 v.0 e.0 in let q = equals_same r s u.1 v.1 e.1 in cc

-- of two different records one is the earlier
pub precedes_total : (cs : List Direction) (r s : List Datum) → IsRecord cs r → IsRecord cs s →
    Precedes cs r s ⊎ ((r ≡ s) ⊎ Precedes cs s r)
precedes_total [] [] [] h k = inr (inl refl)
precedes_total [] [] (b ∷ s) h k = absurd (omega (arith, k.0))
precedes_total [] (a ∷ r) s h k = absurd (omega (arith, h.0))
precedes_total (c ∷ cs) [] s h k = absurd (omega (arith, h.0))
precedes_total (c ∷ cs) (a ∷ r) [] h k = absurd (omega (arith, k.0))
precedes_total (c ∷ cs) (a ∷ r) (b ∷ s) h k =
    elim ((column_laws c).total a b h.1.0 k.1.0) [
      | inl l ↦ inl (inl l)
      | inr q ↦ elim q [
        | inl e ↦ elim (precedes_total cs r s (omega (arith, h.0), h.1.1) (omega (arith, k.0), k.1.1)) [
          | inl l ↦ inl (inr (subst (λ (z : Datum). Even a z) e (even_refl a), l))
          | inr t ↦ elim t [ inl f ↦ inr (inl (cc)) | inr l ↦ inr (inr (inr (subst (λ (z : Datum). Even z a) e (even_refl a), l))) ]
        ]
        | inr l ↦ inr (inr (inl l))
      ]
    ]

-- the earlier record's key parts from the other's
pub key_parts : (cs : List Direction) (r s : List Datum) → AllByRecursion Valid r → AllByRecursion Valid s → Precedes cs r s → Parts (key cs r) (key cs s)
key_parts [] r s u v h = absurd h
key_parts (c ∷ cs) [] s u v h = absurd h
key_parts (c ∷ cs) (a ∷ r) [] u v h = absurd h
key_parts (c ∷ cs) (a ∷ r) (b ∷ s) u v (inl h) =
    parts_append (code_in c a) (code_in c b) (key cs r) (key cs s) (parts (column_laws c) a b u.0 v.0 h)
key_parts (c ∷ cs) (a ∷ r) (b ∷ s) u v (inr h) =
    subst (λ (z : Datum). Parts (code_in c a ++ key cs r) (code_in c z ++ key cs s)) (even_same a b u.0 v.0 h.0)
    (parts_after (code_in c a) (key cs r) (key cs s) (key_parts cs r s u.1 v.1 h.1))

pub key_order : (cs : List Direction) → KeyOrder cs
unfolding KeyOrder
key_order cs r s h k = (rises r s h k, falls, λ e. ap (key cs) (equals_same r s h.1 k.1 e), same)
  where
    rises : (r s : List Datum) → IsRecord cs r → IsRecord cs s → Precedes cs r s → Less (key cs r) (key cs s)
    rises r s h k p = parts_less (key cs r) (key cs s) (key_parts cs r s h.1 k.1 p)

    falls : Less (key cs r) (key cs s) → Precedes cs r s
    falls l = elim (precedes_total cs r s h k) [
      | inl p ↦ p
      | inr q ↦ elim q [
        | inl e ↦ absurd (less_irrefl (key cs s) (subst (λ (z : List Datum). Less (key cs z) (key cs s)) e l))
        | inr p ↦ absurd (less_asym (key cs r) (key cs s) l (rises s r k h p))
      ]
    ]

    same : key cs r ≡ key cs s → Equals r s
    same e = elim (precedes_total cs r s h k) [
      | inl p ↦ absurd (less_irrefl (key cs s) (subst (λ (z : List ℕ). Less z (key cs s)) e (rises r s h k p)))
      | inr q ↦ elim q [
        | inl f ↦ subst (λ (z : List Datum). Equals r z) f (equals_refl r)
        | inr p ↦ absurd (less_irrefl (key cs s) (subst (λ (z : List ℕ). Less (key cs s) z) e (rises s r k h p)))
      ]
    ]
