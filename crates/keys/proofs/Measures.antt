-- From the length of the values' codes to that of a record's key.
use Rattle.std.proofs.Common.{◌≡◌, ℕ, List, [], length, IfOk, MatchResult, Some, None, Ok, Err, Option, Result, sym, refl, ap, ◌∙◌, arith}
use Rattle.std.specs.List.{AllByRecursion}
use Rattle.std.proofs.lemmas.List.{length-map}
use Rattle.std.proofs.lemmas.Bool.{eq-eqb, ne_eqb}
use Rattle.refusals.specs.Answer.{answer, refuses}
use Rattle.codes.specs.declared.fault.KeyFault.{KeyFault}
use Rattle.codes.specs.Laws.{counted}
use Rattle.codes.specs.Refusals.{key_told}
use Rattle.codes.specs.Values.{Datum, Valid}
use Rattle.keys.specs.declared.direction.Direction.{Direction}
use Rattle.keys.specs.declared.row.Record.{Record}
use Rattle.keys.specs.Means.{data_of}
use Rattle.keys.specs.Records.{key}
use Rattle.keys.specs.Writing.{CodesLen, codes_length, columns_answer, unless_zero, zero_column}
use Rattle.keys.proofs.Columns.{length_key}

-- another number of values
pub other_length : (cs : List Direction) (row : Record) → (length row.values.now ≡ length cs → ⊥) → columns_answer cs (data_of row) ≡ refuses 5 []
unfolding columns_answer
other_length cs row n =
    let r = data_of row in
    let m : length r ≡ length cs → ⊥ = λ e. n (simp length-map at e) in
    rw (ne_eqb (length r) (length cs) m) refl

module _ (cs : List Direction) (r : List Datum) (k : length r ≡ length cs) where
  whole : columns_answer cs r ≡ unless_zero (zero_column 1 r) (length (key cs r))
  unfolding columns_answer
  whole = rw (eq-eqb (length r) (length cs) k) refl

  told : (z : Option ℕ) (a : Result ℕ KeyFault) → columns_answer cs r ≡ unless_zero z (length (key cs r)) →
      answer key_told a ≡ unless_zero z (counted (codes_length r)) → IfOk a (λ _. AllByRecursion Valid r) →
      MatchResult a (λ n. CodesLen cs r n) (λ f. columns_answer cs r ≡ refuses (key_told f).0 (key_told f).1)
  told None (Ok n) w e v =
      let q : n ≡ counted (codes_length r) = cc in
      (w, q ∙ ap counted (sym (length_key cs r k)), (k, v))
  told None (Err f) w e v = let z : ◌≡◌ {A = ℕ} 0 1 = cc in absurd (omega arith)
  told (Some c) (Ok n) w e v = let z : ◌≡◌ {A = ℕ} 0 1 = cc in absurd (omega arith)
  told (Some c) (Err f) w e v = w ∙ sym e

-- the right number of values
pub same_length : (cs : List Direction) (row : Record) (a : Result ℕ KeyFault) → length row.values.now ≡ length cs →
    answer key_told a ≡ unless_zero (zero_column 1 (data_of row)) (counted (codes_length (data_of row))) → IfOk a (λ _. AllByRecursion Valid (data_of row)) →
    MatchResult a (λ n. CodesLen cs (data_of row) n) (λ f. columns_answer cs (data_of row) ≡ refuses (key_told f).0 (key_told f).1)
same_length cs row a k e v =
    let r = data_of row in
    let l : length r ≡ length cs = simp length-map k in
    told cs r l (zero_column 1 r) a (whole cs r l) e v
