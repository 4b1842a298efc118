-- Reading a key column by column.
use Rattle.std.proofs.Common.{◌≡◌, ℕ, ◌+◌, ◌<◌, ◌≤◌, List, [], ◌∷◌, ◌++◌, length, get_or, take, drop, sym, refl, ap, ◌∙◌, subst, inl, inr, append_assoc, append-nil, arith, length-append}
use Rattle.std.proofs.ByRecursion.{All-append}
use Rattle.std.proofs.lemmas.List.{take_at, take-take, length-take-le, get_or_at}
use Rattle.std.proofs.lemmas.Bool.{cases_order}
use Rattle.codes.specs.Strings.{Begins}
use Rattle.codes.specs.Values.{Datum, null, Valid}
use Rattle.codes.specs.Reading.{Starts, Stops}
use Rattle.codes.specs.Orders.{parts_begins, parts_begun}
use Rattle.codes.proofs.Readings.{Joint, joint, seq_first, seq_second, begins_length, begins_take, begins_trans, take_behind}
use Rattle.keys.specs.declared.direction.Direction.{Direction}
use Rattle.keys.specs.Records.{code_in, key, IsRecord}
use Rattle.keys.specs.Reading.{BeginsKey, NoKeyAt, OnePlace, RoundTrip}
use Rattle.keys.proofs.Columns.{key_append}
use Rattle.keys.proofs.Rows.{precedes_total, key_parts}

-- no record's key begins another's
pub key_free : (cs : List Direction) (r s : List Datum) → IsRecord cs r → IsRecord cs s → Begins (key cs r) (key cs s) → r ≡ s
key_free cs r s h k b =
    elim (precedes_total cs r s h k) [
      | inl p ↦ absurd (parts_begins (key cs r) (key cs s) (key_parts cs r s h.1 k.1 p) b)
      | inr q ↦ elim q [ inl e ↦ e | inr p ↦ absurd (parts_begun (key cs s) (key cs r) (key_parts cs s r k.1 h.1 p) b) ]
    ]

-- a plan has a record: nulls
nulls : List Direction → List Datum
nulls [] = []
nulls (c ∷ cs) = null ∷ nulls cs

nulls_record : (cs : List Direction) → IsRecord cs (nulls cs)
unfolding nulls
nulls_record [] = (refl, tt)
nulls_record (c ∷ cs) = let h = nulls_record cs in (omega (arith, h.0), (tt, h.1))

-- a code with the same strings
module _ {S T : Type 0} (CS : S → Type 0) (bs : S → List ℕ) (CT : T → Type 0) (bt : T → List ℕ)
    (to : (m : S) → CS m → (t : T) × (CT t × (bt t ≡ bs m))) (from : (t : T) → CT t → (m : S) × (CS m × (bs m ≡ bt t))) where
  same_stops : (b : List ℕ) (p : ℕ) → Stops CS bs b p → Stops CT bt b p
  same_stops b p s = (
    λ t c h. let m = from t c in s.0 m.0 m.1.0 (subst (λ (z : List ℕ). Begins z b) (sym m.1.1) h),
    s.1,
    let w = s.2 in let t = to w.0 w.1.0 in (t.0, (t.1.0, subst (λ (z : List ℕ). Begins (take p b) z) (sym t.1.1) w.1.1)),
    λ l w. let m = from w.0 w.1.0 in s.3 l (m.0, (m.1.0, subst (λ (z : List ℕ). Begins (take (p + 1) b) z) (sym m.1.1) w.1.1)),
  )

-- a column by itself
module _ (c : Direction) where
  to : (d : Datum) → Valid d → (r : List Datum) × (IsRecord (c ∷ []) r × (key (c ∷ []) r ≡ code_in c d))
  to d v = (d ∷ [], ((refl, (v, tt)), append-nil (code_in c d)))

  from : (r : List Datum) → IsRecord (c ∷ []) r → (d : Datum) × (Valid d × (code_in c d ≡ key (c ∷ []) r))
  from [] h = absurd (omega (arith, h.0))
  from (d ∷ []) h = (d, (h.1.0, sym (append-nil (code_in c d))))
  from (d ∷ e ∷ r) h = absurd (omega (arith, h.0))

  pub one_stops : (b : List ℕ) (p : ℕ) → Stops Valid (code_in c) b p → Stops (IsRecord (c ∷ [])) (key (c ∷ [])) b p
  one_stops = same_stops Valid (code_in c) (IsRecord (c ∷ [])) (key (c ∷ [])) to from

-- some columns, and then the others
pub record_append : (fs cs : List Direction) (r s : List Datum) → IsRecord fs r → IsRecord cs s → IsRecord (fs ++ cs) (r ++ s)
record_append fs cs r s h k =
    (omega (arith, h.0, k.0, length-append fs cs, length-append r s), All-append Valid r s h.1 k.1)

record_split : (fs cs : List Direction) (t : List Datum) → IsRecord (fs ++ cs) t → (r : List Datum) × ((s : List Datum) × ((t ≡ r ++ s) × (IsRecord fs r × IsRecord cs s)))
record_split [] cs t h = ([], (t, (refl, ((refl, tt), h))))
record_split (a ∷ fs) cs [] h = absurd (omega (arith, h.0))
record_split (a ∷ fs) cs (d ∷ t) h =
    let q = record_split fs cs t (omega (arith, h.0), h.1.1) in
    (d ∷ q.0, (q.1.0, (ap (λ z. d ∷ z) q.1.1.0, ((omega (arith, q.1.1.1.0.0), (h.1.0, q.1.1.1.0.1)), q.1.1.1.1))))

module _ (fs cs : List Direction) where
  abbrev Both : List Datum × List Datum → Type 0
  Both = Joint (IsRecord fs) (key fs) (λ r. IsRecord cs) (λ r. key cs) (key_free fs)

  abbrev both : List Datum × List Datum → List ℕ
  both = joint (IsRecord fs) (key fs) (λ r. IsRecord cs) (λ r. key cs) (key_free fs)

  split_to : (m : List Datum × List Datum) → Both m → (t : List Datum) × (IsRecord (fs ++ cs) t × (key (fs ++ cs) t ≡ both m))
  split_to m j = (m.0 ++ m.1, (record_append fs cs m.0 m.1 j.0 j.1, key_append fs cs m.0 m.1 j.0.0))

  split_from : (t : List Datum) → IsRecord (fs ++ cs) t → (m : List Datum × List Datum) × (Both m × (both m ≡ key (fs ++ cs) t))
  split_from t h =
      let q = record_split fs cs t h in
      ((q.0, q.1.0), ((q.1.1.1.0, q.1.1.1.1), sym (ap (key (fs ++ cs)) q.1.1.0 ∙ key_append fs cs q.0 q.1.0 q.1.1.1.0.0)))

  pub append_first : (b : List ℕ) (p : ℕ) → Stops (IsRecord fs) (key fs) b p → Stops (IsRecord (fs ++ cs)) (key (fs ++ cs)) b p
  append_first b p s =
      same_stops Both both (IsRecord (fs ++ cs)) (key (fs ++ cs)) split_to split_from b p
      (seq_first (IsRecord fs) (key fs) (λ r. IsRecord cs) (λ r. key cs) (key_free fs) b p (λ r h. (nulls cs, nulls_record cs)) s)

  pub append_second : (b : List ℕ) (r : List Datum) (n p : ℕ) → Starts (IsRecord fs) (key fs) b r n → Stops (IsRecord cs) (key cs) (drop n b) p → Stops (IsRecord (fs ++ cs)) (key (fs ++ cs)) b (n + p)
  append_second b r n p s t =
      same_stops Both both (IsRecord (fs ++ cs)) (key (fs ++ cs)) split_to split_from b (n + p) (seq_second (IsRecord fs) (key fs) (λ r. IsRecord cs) (λ r. key cs) (key_free fs) b r n p s t)

-- bytes behind a key
pub key_behind : (cs : List Direction) (b : List ℕ) (r : List Datum) (n : ℕ) → Starts (IsRecord cs) (key cs) b r n → n < length b → NoKeyAt cs b n
key_behind cs b r n s l = (
  λ t c e. let q = key_free cs r t s.0 c (subst (λ (z : List ℕ). Begins (key cs r) z) (sym e) s.2) in omega (arith, s.1, ap length e, ap (λ z. length (key cs z)) q),
  omega arith,
  (r, (s.0, subst (λ (z : List ℕ). Begins z (key cs r)) (sym front) ([], append-nil (key cs r)))),
  λ m w. let f = begins_trans (key cs r) (take (n + 1) b) (key cs w.0) (first w) w.1.1 in
      let q = key_free cs r w.0 s.0 w.1.0 f in
      let k = begins_length (take (n + 1) b) (key cs w.0) w.1.1 in
      omega (arith, k, s.1, ap (λ z. length (key cs z)) q, length-take-le (n + 1) b (omega arith)),
)
  where
    front : take n b ≡ key cs r
    front = let e = s.2.1 in ap (take n) (sym e) ∙ take_at (key cs r) s.2.0 n (sym s.1)

    first : BeginsKey cs (take (n + 1) b) → Begins (key cs r) (take (n + 1) b)
    first w = (take 1 s.2.0, sym (ap (take (n + 1)) (sym s.2.1) ∙ take_behind (key cs r) s.2.0 n 1 s.1))

pub key_stops : (cs : List Direction) (b : List ℕ) (p : ℕ) → Stops (IsRecord cs) (key cs) b p → NoKeyAt cs b p
key_stops cs b p s = (λ r c e. s.0 r c ([], append-nil (key cs r) ∙ e), s.1, s.2, s.3)

-- the place is one
pub one_place : (cs : List Direction) → OnePlace cs
unfolding OnePlace
one_place cs b p q h k =
    elim (cases_order p q) [
      | inl e ↦ e
      | inr o ↦ elim o [
        | inl l ↦ absurd (h.3 (omega (arith, k.1)) (shorter (p + 1) q (omega arith) k.2))
        | inr l ↦ absurd (k.3 (omega (arith, h.1)) (shorter (q + 1) p (omega arith) h.2))
      ]
    ]
  where
    shorter : (m n : ℕ) → m ≤ n → BeginsKey cs (take n b) → BeginsKey cs (take m b)
    shorter m n l w = (w.0, (w.1.0, begins_trans (take m b) (take n b) (key cs w.0) (subst (λ (z : List ℕ). Begins z (take n b)) (take-take m n b l) (begins_take m (take n b))) w.1.1))

pub round_trip : (cs : List Direction) → RoundTrip cs
unfolding RoundTrip
round_trip cs b r s h k = key_free cs r s h.0 k.0 (subst (λ (z : List ℕ). Begins (key cs r) z) (h.1 ∙ sym k.1) ([], append-nil (key cs r)))

-- a value in the middle of a record
pub middle : (r s : List Datum) (d : Datum) (i : ℕ) → length r ≡ i → get_or ((r ++ (d ∷ [])) ++ s) i null ≡ d
middle r s d i h = rw (append_assoc r (d ∷ []) s) (get_or_at r d s null i h)

pub record_length : (cs : List Direction) (i : ℕ) (r : List Datum) → i ≤ length cs → IsRecord (take i cs) r → length r ≡ i
record_length cs i r h c = omega (arith, c.0, length-take-le i cs h)
