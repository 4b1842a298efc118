-- What `cmp` answers on byte strings, and what it then says of records.
use Rattle.std.proofs.Common.{◌≡◌, ℕ, ◌<◌, List, [], ◌∷◌, Ordering, Less as Lower, Equal, Greater, sym, refl, subst, inl, inr}
use Rattle.std.specs.Cmp.{ranks}
use Rattle.std.specs.Cmp.Lexicographic.{slice_cmp}
use Rattle.std.specs.Ordering.{MatchOrdering, nat_cmp, ordering_then}
use Rattle.codes.specs.Strings.{Less}
use Rattle.codes.specs.Values.{Datum}
use Rattle.keys.specs.declared.direction.Direction.{Direction}
use Rattle.keys.specs.Ordering.{ByKeys}
use Rattle.keys.specs.Reading.{IsKey}
use Rattle.keys.specs.Records.{key, KeyOrder, Precedes, Equals}
use Rattle.keys.proofs.Rows.{key_order}

abbrev pub Says : List ℕ → List ℕ → Ordering → Type 0
Says xs ys o = MatchOrdering o (Less xs ys) (xs ≡ ys) (Less ys xs)

lift : (x y : ℕ) (xs ys : List ℕ) (o : Ordering) → x ≡ y → Says xs ys o → Says (x ∷ xs) (y ∷ ys) o
lift x y xs ys Lower p h = inr (p, h)
lift x y xs ys Equal p h = cc
lift x y xs ys Greater p h = inr (sym p, h)

first : (x y : ℕ) (xs ys : List ℕ) (o k : Ordering) → MatchOrdering k (x < y) (x ≡ y) (y < x) → o ≡ ordering_then k (slice_cmp nat_cmp xs ys) →
    (o ≡ slice_cmp nat_cmp xs ys → Says xs ys o) → Says (x ∷ xs) (y ∷ ys) o
first x y xs ys o Lower p q again = rw q (inl p)
first x y xs ys o Equal p q again = lift x y xs ys o p (again q)
first x y xs ys o Greater p q again = rw q (inl p)

pub says : (xs ys : List ℕ) (o : Ordering) → o ≡ slice_cmp nat_cmp xs ys → Says xs ys o
says [] [] o h = rw h refl
says [] (y ∷ ys) o h = rw h tt
says (x ∷ xs) [] o h = rw h tt
says (x ∷ xs) (y ∷ ys) o h = first x y xs ys o (nat_cmp x y) (ranks x y) h (says xs ys o)

-- from the bytes to the records
pub said : (a b : List ℕ) (o : Ordering) → Says a b o → ByKeys o a b
unfolding KeyOrder
said a b o h cs r s p q = at o (subst (λ (z : List ℕ). Says z (key cs s) o) (sym p.1) (subst (λ (z : List ℕ). Says a z o) (sym q.1) h))
  where
    at : (o : Ordering) → Says (key cs r) (key cs s) o → MatchOrdering o (Precedes cs r s) (Equals r s) (Precedes cs s r)
    at Lower h = (key_order cs r s p.0 q.0).1 h
    at Equal h = (key_order cs r s p.0 q.0).3 h
    at Greater h = (key_order cs s r q.0 p.0).1 h

pub told : (a b : List ℕ) (o : Ordering) (cs : List Direction) (r s : List Datum) → IsKey cs a r → IsKey cs b s → o ≡ slice_cmp nat_cmp a b →
    MatchOrdering o (Precedes cs r s) (Equals r s) (Precedes cs s r)
told a b o cs r s p q e = said a b o (says a b o e) cs r s p q
