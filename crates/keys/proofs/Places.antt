-- Columns read one after another, from place to place of a key.
use Rattle.std.proofs.Common.{◌≡◌, ℕ, suc, ◌+◌, ◌-◌, ◌<◌, List, [], ◌∷◌, ◌++◌, length, get_or, take, drop, Ok, Err, sym, refl, ap, ◌∙◌, Result, subst, append_assoc, append-nil, arith, length-append, drop-cons}
use Rattle.std.proofs.lemmas.List.{take-append-drop, take_more, take_rest, drop_at}
use Rattle.codes.specs.declared.stop.Stop.{Stop}
use Rattle.codes.specs.declared.value.Value.{Value}
use Rattle.codes.specs.Means.{datum_of}
use Rattle.codes.specs.Reading.{Starts, Stops}
use Rattle.codes.specs.Values.{Datum}
use Rattle.keys.specs.declared.direction.Direction.{Direction}
use Rattle.keys.specs.declared.direction.Direction.TheVariants.{Ascending}
use Rattle.keys.specs.declared.key_reader.KeyReader.{KeyReader}
use Rattle.keys.specs.Records.{code_in, key, IsRecord}
use Rattle.keys.specs.Reading.{ColumnTaken, Ended, FoundAt, Holds, NoKeyAt, Walked, Whole}
use Rattle.keys.proofs.Columns.{key_append}
use Rattle.keys.proofs.Walks.{append_first, append_second, key_behind, key_stops, middle, one_stops, record_append, record_length}

-- some columns and then others
holds_both : (fs cs : List Direction) (r s : List Datum) (from here to : KeyReader) → Holds fs r from here → Holds cs s here to → Holds (fs ++ cs) (r ++ s) from to
holds_both fs cs r s from here to h k =
    let e = key_append fs cs r s h.0.0 in (
      record_append fs cs r s h.0 k.0,
      ap (λ z. z ++ to.rest.now) e ∙ append_assoc (key fs r) (key cs s) to.rest.now ∙ ap (λ z. key fs r ++ z) k.1 ∙ h.1,
      omega (arith, h.2, k.2, ap length e, length-append (key fs r) (key cs s)),
    )

-- its key stands at the front
holds_starts : (cs : List Direction) (r : List Datum) (from to : KeyReader) → Holds cs r from to → Starts (IsRecord cs) (key cs) from.rest.now r (length (key cs r))
holds_starts cs r from to h = (h.0, refl, (to.rest.now, h.1))

-- a column by itself
holds_one : (c : Direction) (from : KeyReader) (texts : List ℕ) (p : Value × KeyReader) → ColumnTaken c from texts (Ok p) → Holds (c ∷ []) (datum_of p.0 texts ∷ []) from p.1
holds_one c from texts p t =
    let e = append-nil (code_in c (datum_of p.0 texts)) in ((refl, (t.0, tt)), rw e t.1, rw e t.2)

-- the first columns stop
walk_first : (fs cs : List Direction) (from : KeyReader) (stop : Stop) → Walked fs from (Err stop) → Walked (fs ++ cs) from (Err stop)
walk_first fs cs from stop w = (w.0, (w.1.0, append_first fs cs from.rest.now w.0 w.1.1))

-- the first columns are read, and then the others
walk_then : (fs cs : List Direction) (from here : KeyReader) (a : Result KeyReader Stop) → Walked fs from (Ok here) → Walked cs here a → Walked (fs ++ cs) from a
walk_then fs cs from here (Ok to) w u = (w.0 ++ u.0, holds_both fs cs w.0 u.0 from here to w.1 u.1)
walk_then fs cs from here (Err stop) w u =
    let n = length (key fs w.0) in
    let d : drop n from.rest.now ≡ here.rest.now = ap (drop n) (sym w.1.1) ∙ drop_at (key fs w.0) here.rest.now n refl in (
      n + u.0,
      (
        omega (arith, w.1.2, u.1.0),
        append_second fs cs from.rest.now w.0 n u.0 (holds_starts fs w.0 from here w.1) (subst (λ (z : List ℕ). Stops (IsRecord cs) (key cs) z u.0) (sym d) u.1.1),
      ),
    )

-- where columns that are read from the front stop, there is no key
pub no_key : (cs : List Direction) (from : KeyReader) (stop : Stop) → from.at ≡ 0 → Walked cs from (Err stop) → NoKeyAt cs from.rest.now stop.at
no_key cs from stop z w =
    let e : w.0 ≡ stop.at = omega (arith, w.1.0) in
    subst (λ (p : ℕ). NoKeyAt cs from.rest.now p) e (key_stops cs from.rest.now w.0 w.1.1)

-- columns that are read from the front to the end are a key, and others are none
pub whole : (cs : List Direction) (from last : KeyReader) (a : Result (Unit {0}) Stop) → from.at ≡ 0 → Walked cs from (Ok last) → Ended last a → Whole cs from.rest.now a
whole cs from last (Ok u) z w e =
    (w.0, (w.1.0, sym (append-nil (key cs w.0)) ∙ ap (λ r. key cs w.0 ++ r) (sym e) ∙ w.1.1))
whole cs from last (Err stop) z w e =
    let n = length (key cs w.0) in
    let p : n ≡ stop.at = omega (arith, w.1.2, e.0) in
    subst (λ (p : ℕ). NoKeyAt cs from.rest.now p) p
    (key_behind cs from.rest.now w.0 n (holds_starts cs w.0 from last w.1) (omega (arith, e.1, ap length w.1.1, length-append (key cs w.0) last.rest.now)))

-- the columns before i stop
pub walk_stops : (cs : List Direction) (i : ℕ) (from : KeyReader) (stop : Stop) → Walked (take i cs) from (Err stop) → Walked cs from (Err stop)
walk_stops cs i from stop w = subst (λ (z : List Direction). Walked z from (Err stop)) (take-append-drop i cs) (walk_first (take i cs) (drop i cs) from stop w)

-- column i, behind those before it
module _ (cs : List Direction) (i : ℕ) (h : i < length cs) (from here : KeyReader) (texts : List ℕ) (w : Walked (take i cs) from (Ok here)) where
  -- it stops
  pub column_stops : (stop : Stop) → ColumnTaken (get_or cs i Ascending) here texts (Err stop) → Walked cs from (Err stop)
  column_stops stop t =
      let c = get_or cs i Ascending in
      let split = ap (λ z. take i cs ++ z) (sym (drop-cons cs i Ascending h)) ∙ take-append-drop i cs in
      subst (λ (z : List Direction). Walked z from (Err stop)) split
      (walk_then (take i cs) (c ∷ drop (suc i) cs) from here (Err stop) w (walk_first (c ∷ []) (drop (suc i) cs) here stop (t.0, (t.1.0, one_stops c here.rest.now t.0 t.1.1))))

  -- it is read
  module _ (p : Value × KeyReader) (t : ColumnTaken (get_or cs i Ascending) here texts (Ok p)) where
    holds_more : Holds (take (i + 1) cs) (w.0 ++ (datum_of p.0 texts ∷ [])) from p.1
    holds_more =
        let c = get_or cs i Ascending in
        let d = datum_of p.0 texts in
        subst (λ (z : List Direction). Holds z (w.0 ++ (d ∷ [])) from p.1) (sym (take_more cs i Ascending h))
        (holds_both (take i cs) (c ∷ []) w.0 (d ∷ []) from here p.1 w.1 (holds_one c here texts p t))

    pub column_read : Walked (take (i + 1) cs) from (Ok p.1)
    column_read = (w.0 ++ (datum_of p.0 texts ∷ []), holds_more)

    -- and then the others
    pub rest_read : (a : Result KeyReader Stop) → Walked (drop (i + 1) cs) p.1 a → Walked cs from a
    rest_read a u = subst (λ (z : List Direction). Walked z from a) (take-append-drop (i + 1) cs) (walk_then (take (i + 1) cs) (drop (i + 1) cs) from p.1 a column_read u)

    -- it is found in the whole key
    pub found : (last : KeyReader) → Walked (drop (i + 1) cs) p.1 (Ok last) → last.rest.now ≡ [] → FoundAt cs from.rest.now i texts (Ok p.0)
    found last u e =
        let d = datum_of p.0 texts in
        let r = (w.0 ++ (d ∷ [])) ++ u.0 in
        let all = subst (λ (z : List Direction). Holds z r from last) (take-append-drop (i + 1) cs) (holds_both (take (i + 1) cs) (drop (i + 1) cs) (w.0 ++ (d ∷ [])) u.0 from p.1 last holds_more u.1) in (
          r,
          (
            (all.0, sym (append-nil (key cs r)) ∙ ap (λ z. key cs r ++ z) (sym e) ∙ all.1),
            sym (middle w.0 u.0 d i (record_length cs i w.0 (omega (arith, h)) w.1.0)),
          ),
        )

-- the columns from i on, as a slice
pub back : (cs : List Direction) (i : ℕ) (from : KeyReader) (a : Result KeyReader Stop) → Walked (take (length cs - i) (drop i cs)) from a → Walked (drop i cs) from a
back cs i from a w = subst (λ (z : List Direction). Walked z from a) (take_rest cs i) w
