-- What a call returns where its `?` finds no value.
use Rattle.std.proofs.Common.{◌≡◌, false, Ok, Err, None, Option, Result, refl, subst}
use Rattle.std.specs.Option.{ok_or}
use Rattle.std.specs.Result.{IsErrAnd, MatchResult, is_ok}
use Rattle.std.proofs.lemmas.Bool.{false≢true}
use Rattle.std.proofs.lemmas.Result.{err_from_is_err_and}

-- an Option without a value, refused by e, which is turned into another refusal
pub exit_none : {T V E F : Type 0} (P : Result V F → Type 0) (turn : E → F) (r : Result V F) (o : Option T) (e d : E) →
    IsErrAnd r (λ y. y ≡ turn d) → Err d ≡ ok_or o e → o ≡ None → P (Err (turn e)) → P r
exit_none P turn r o e d x v n h = let p = err_from_is_err_and r x in let q : d ≡ e = let w = rw n at v in cc in rw (p.1, p.2, q) h

-- a refusal passed on as it is
pub exit_same : {V E : Type 0} (P : Result V E → Type 0) (r : Result V E) (d : E) → IsErrAnd r (λ y. y ≡ d) → P (Err d) → P r
exit_same P r d x h = let p = err_from_is_err_and r x in rw (p.1, p.2) h

-- a refusal that a function made of another one
pub exit_made : {V W E D : Type 0} (r : Result V E) (q : Result W D) (d : D) (P : V → Type 0) (Q : E → D → Type 0) →
    q ≡ Err d → MatchResult r P (λ e. IsErrAnd q (Q e)) → false ≡ is_ok r → (e : E) × (r ≡ Err e) × Q e d
exit_made {V} {W} {E} {D} (Ok x) q d P Q f m v = absurd (false≢true v)
exit_made {V} {W} {E} {D} (Err e) q d P Q f m v = (e, refl, subst (λ (z : Result W D). IsErrAnd z (Q e)) f m)
