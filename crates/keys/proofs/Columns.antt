-- A record's columns, measured and written one by one.
use Rattle.std.proofs.Common.{◌≡◌, ℕ, suc, ◌+◌, ◌-◌, ◌<◌, ◌≤◌, cond, List, [], ◌∷◌, ◌++◌, length, get_or, take, drop, Some, None, Option, IsSome, sym, refl, ap, ◌∙◌, append_assoc, append-nil, add-one, arith, length-append, length-drop, drop-cons}
use borrow.Rule.Slice.PartMut.{put_mid}
use Rattle.std.proofs.lemmas.List.{take_more, take_at, take_all, drop_at, take-append-drop, length-take, length-take-le, drop-drop, drop_all, get_or-map, length-map}
use Rattle.std.proofs.lemmas.List.Sums.{sum_by-cons}
use Rattle.keys.specs.declared.direction.Direction.{Direction}
use Rattle.keys.specs.declared.direction.Direction.TheVariants.{Ascending, Descending}
use Rattle.codes.specs.declared.value.Value.{Value}
use Rattle.codes.specs.Means.{datum_of}
use Rattle.codes.specs.Values.{Datum, null, clean}
use Rattle.codes.specs.Codes.{datum_code}
use Rattle.codes.specs.Laws.{Put}
use Rattle.keys.specs.declared.row.Record.{Record}
use Rattle.keys.specs.Means.{data_of}
use Rattle.keys.specs.Records.{code_in, key}
use Rattle.keys.specs.Writing.{codes_length, zero_column}
use Rattle.codes.proofs.Puts.{length_flipped}

-- a value of a record, and what it stands for
pub column_at : (r : Record) (i : ℕ) (v : Value) → v ≡ get_or r.values.now i v → i < length r.values.now → (i < length (data_of r)) × (get_or (data_of r) i null ≡ datum_of v r.texts.now)
column_at r i v e h =
    let f = λ (v : Value). datum_of v r.texts.now in (simp length-map h, get_or-map f r.values.now i v null h ∙ ap f (sym e))

-- the first column that is not clean, from column i on
pub zero_at : (r : List Datum) (i : ℕ) (d : Datum) → i < length r → get_or r i null ≡ d →
    zero_column (i + 1) (drop i r) ≡ cond (clean d) (zero_column (i + 1 + 1) (drop (i + 1) r)) (Some (i + 1))
zero_at r i d h is =
    let next : drop (i + 1) r ≡ drop (suc i) r = rw add-one refl in
    rw next (ap (zero_column (i + 1)) (drop-cons r i null h) ∙ rw is refl)

length_code : (c : Direction) (d : Datum) → length (code_in c d) ≡ length (datum_code d)
length_code Ascending d = refl
length_code Descending d = length_flipped (datum_code d)

pub length_key : (cs : List Direction) (r : List Datum) → length r ≡ length cs → length (key cs r) ≡ codes_length r
length_key [] [] h = refl
length_key [] (d ∷ r) h = absurd (omega arith)
length_key (c ∷ cs) [] h = absurd (omega arith)
length_key (c ∷ cs) (d ∷ r) h =
    omega (arith, length-append (code_in c d) (key cs r), length_code c d, length_key cs r (omega arith), sum_by-cons (λ d. length (datum_code d)) d r)

-- some columns and then others
pub key_append : (fs cs : List Direction) (r s : List Datum) → length r ≡ length fs → key (fs ++ cs) (r ++ s) ≡ key fs r ++ key cs s
key_append [] cs [] s h = refl
key_append [] cs (d ∷ r) s h = absurd (omega arith)
key_append (a ∷ fs) cs [] s h = absurd (omega arith)
key_append (a ∷ fs) cs (d ∷ r) s h =
    ap (λ z. code_in a d ++ z) (key_append fs cs r s (omega arith)) ∙ sym (append_assoc (code_in a d) (key fs r) (key cs s))

-- the columns before i, and those from i on
pub key_split : (cs : List Direction) (r : List Datum) (i : ℕ) → length r ≡ length cs →
    key cs r ≡ key (take i cs) (take i r) ++ key (drop i cs) (drop i r)
key_split cs r i k =
    let long : length (take i r) ≡ length (take i cs) = omega (arith, length-take i cs, length-take i r) in
    let e = key_append (take i cs) (drop i cs) (take i r) (drop i r) long in
    rw (take-append-drop i cs, take-append-drop i r) at e

-- the column that is written next, and the room that it has
module _ (cs : List Direction) (r : List Datum) (i : ℕ) (c : Direction) (d : Datum) (h : i < length cs) (k : length r ≡ length cs) (e : c ≡ get_or cs i Ascending) (f : get_or r i null ≡ d) where
  pub key_next : key (take (i + 1) cs) (take (i + 1) r) ≡ key (take i cs) (take i r) ++ code_in c d
  key_next =
      let long : length (take i r) ≡ length (take i cs) = omega (arith, length-take-le i cs (omega arith), length-take-le i r (omega arith)) in
      rw (take_more cs i Ascending h, take_more r i null (omega arith), sym e, f)
      (key_append (take i cs) (c ∷ []) (take i r) (d ∷ []) long ∙ ap (λ z. key (take i cs) (take i r) ++ z) (append-nil (code_in c d)))

  pub room : length (key (take i cs) (take i r)) + length (code_in c d) ≤ length (key cs r)
  room =
      omega (
        arith,
        ap length key_next,
        length-append (key (take i cs) (take i r)) (code_in c d),
        ap length (key_split cs r (i + 1) k),
        length-append (key (take (i + 1) cs) (take (i + 1) r)) (key (drop (i + 1) cs) (drop (i + 1) r)),
      )

-- a code that has room is written
pub put_fits : (code before after : List ℕ) (o : Option ℕ) → Put code before after o → length code ≤ length before → IsSome o
put_fits code before after None p h = absurd (omega (arith, p.0))
put_fits code before after (Some n) p h = refl

-- a write behind what stands at the front already
pub put_next : (front code out0 out last : List ℕ) (at n : ℕ) → at ≡ length front → out ≡ front ++ drop at out0 → length out ≡ length out0 →
    n ≡ length code → last ≡ code ++ drop n (take (length out - at) (drop at out)) → at + n ≤ length out →
    put_mid at (length out - at) out last ≡ (front ++ code) ++ drop (at + n) out0
put_next front code out0 out last at n e is long m put room =
    let t : take at out ≡ front = rw is (take_at front (drop at out0) at (sym e)) in
    let d : drop at out ≡ drop at out0 = rw is (drop_at front (drop at out0) at (sym e)) in
    let w : length (drop at out0) ≤ length out - at = simp length-drop (omega arith) in
    let v : take (length out - at) (drop at out) ≡ drop at out0 = rw d (take_all (length out - at) (drop at out0) w) in
    let l : last ≡ code ++ drop (at + n) out0 = rw (v, drop-drop n at out0) at put in
    let z : drop (length out - at) (drop at out) ≡ [] = rw d (drop_all (length out - at) (drop at out0) w) in
    rw (t, z, append-nil last, l) (sym (append_assoc front code (drop (at + n) out0)))
