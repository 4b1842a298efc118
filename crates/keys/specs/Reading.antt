-- What reading a key answers.
use Rattle.std.specs.Prelude.{◌≡◌, ℕ, ◌+◌, ◌-◌, ◌<◌, ◌≤◌, ◌⊎◌, List, [], ◌∷◌, ◌++◌, length, take, drop, Ok, Err, Result, ◌≢◌, slice_index_or}
use Rattle.refusals.specs.Answer.{Answer, gives, refuses}
use Rattle.codes.specs.declared.fault.KeyFault.{KeyFault}
use Rattle.codes.specs.declared.fault.KeyFault.TheVariants.{Room}
use Rattle.codes.specs.declared.stop.Stop.{Stop}
use Rattle.codes.specs.declared.value.Value.{Value}
use Rattle.codes.specs.Strings.{Begins}
use Rattle.codes.specs.Means.{datum_of}
use Rattle.codes.specs.Reading.{Stops}
use Rattle.codes.specs.Values.{Datum, Valid, null, spelled_in}
use Rattle.keys.specs.declared.direction.Direction.{Direction}
use Rattle.keys.specs.declared.key_reader.KeyReader.{KeyReader}
use Rattle.keys.specs.Records.{IsRecord, code_in, key}

-- b is the key of the record r
abbrev pub IsKey : List Direction → List ℕ → List Datum → Type 0
IsKey cs b r = IsRecord cs r × (key cs r ≡ b)

-- b begins some key of the plan, of any length
abbrev pub BeginsKey : List Direction → List ℕ → Type 0
BeginsKey cs b = (r : List Datum) × (IsRecord cs r × Begins b (key cs r))

-- b is no key: the bytes before p begin some key of the plan, and either p is their number or with the byte at p they begin none
abbrev pub NoKeyAt : List Direction → List ℕ → ℕ → Type 0
NoKeyAt cs b p =
    ((r : List Datum) → IsRecord cs r → key cs r ≢ b) × (p ≤ length b) × BeginsKey cs (take p b) × (p < length b → BeginsKey cs (take (p + 1) b) → ⊥)

-- there is one such place
unfoldable pub OnePlace : List Direction → Type 0
OnePlace cs = (b : List ℕ) (p q : ℕ) → NoKeyAt cs b p → NoKeyAt cs b q → p ≡ q

-- a check of bytes as a key: 6 with byte 120 for more than 120 bytes, 7 with the place for what is no key
abbrev pub Checked : List Direction → List ℕ → Answer (Unit {0}) → Type 0
Checked cs b (gives u) = (length b ≤ 120) × ((r : List Datum) × IsKey cs b r)
Checked cs b (refuses n beside) =
    ((120 < length b) × (n ≡ 6) × (beside ≡ 120 ∷ [])) ⊎ ((length b ≤ 120) × (n ≡ 7) × ((p : ℕ) × ((beside ≡ p ∷ []) × NoKeyAt cs b p)))

-- a value read as d: a text's bytes are at the front of the output, what stands behind them stays
abbrev pub Gives : Datum → Value → List ℕ → List ℕ → Type 0
Gives d v before after = (datum_of v after ≡ d) × (after ≡ spelled_in d ++ drop (length (spelled_in d)) before)

-- column c of a key, counted from 1: 5 for no such column, 6, 7 over the whole key, 8 for a text longer than the output
abbrev pub ColumnRead : List Direction → List ℕ → ℕ → List ℕ → List ℕ → Answer Value → Type 0
ColumnRead cs b c before after (gives v) =
    (1 ≤ c) × (c ≤ length cs) × (length b ≤ 120) × ((r : List Datum) × (IsKey cs b r × Gives (slice_index_or r (c - 1) null) v before after))
ColumnRead cs b c before after (refuses n beside) =
    (after ≡ before)
    × (((1 ≤ c → c ≤ length cs → ⊥) × (n ≡ 5) × (beside ≡ []))
    ⊎ ((1 ≤ c) × (c ≤ length cs)
    × (((120 < length b) × (n ≡ 6) × (beside ≡ 120 ∷ []))
    ⊎ ((length b ≤ 120)
    × (((n ≡ 7) × ((p : ℕ) × ((beside ≡ p ∷ []) × NoKeyAt cs b p)))
    ⊎ ((n ≡ 8) × (beside ≡ []) × ((r : List Datum) × (IsKey cs b r × (length before < length (spelled_in (slice_index_or r (c - 1) null)))))))))))

-- reading gives back what was written: one record has one key, and one key one record
unfoldable pub RoundTrip : List Direction → Type 0
RoundTrip cs = (b : List ℕ) (r s : List Datum) → IsKey cs b r → IsKey cs b s → r ≡ s

-- the columns cs between two places of a key hold the record r
abbrev pub Holds : List Direction → List Datum → KeyReader → KeyReader → Type 0
Holds cs r from to = IsRecord cs r × (key cs r ++ to.rest.now ≡ from.rest.now) × (to.at ≡ from.at + length (key cs r))

-- some columns read: the place behind them, or where they stop
abbrev pub Walked : List Direction → KeyReader → Result KeyReader Stop → Type 0
Walked cs from (Ok to) = (r : List Datum) × Holds cs r from to
Walked cs from (Err stop) = (p : ℕ) × ((stop.at ≡ from.at + p) × Stops (IsRecord cs) (key cs) from.rest.now p)

-- one column read, a text's bytes at the front of others: its value and the place behind it, or where it stops
abbrev pub ColumnTaken : Direction → KeyReader → List ℕ → Result (Value × KeyReader) Stop → Type 0
ColumnTaken c from texts (Ok p) =
    Valid (datum_of p.0 texts) × (code_in c (datum_of p.0 texts) ++ p.1.rest.now ≡ from.rest.now) × (p.1.at ≡ from.at + length (code_in c (datum_of p.0 texts)))
ColumnTaken c from texts (Err stop) = (p : ℕ) × ((stop.at ≡ from.at + p) × Stops Valid (code_in c) from.rest.now p)

-- the end of a key, or where it goes on
abbrev pub Ended : KeyReader → Result (Unit {0}) Stop → Type 0
Ended here (Ok u) = here.rest.now ≡ []
Ended here (Err stop) = (stop.at ≡ here.at) × (0 < length here.rest.now)

-- bytes read as a key to their end
abbrev pub Whole : List Direction → List ℕ → Result (Unit {0}) Stop → Type 0
Whole cs b (Ok u) = (r : List Datum) × IsKey cs b r
Whole cs b (Err p) = NoKeyAt cs b p.at

-- one column of bytes that are read as a key to their end
abbrev pub FoundAt : List Direction → List ℕ → ℕ → List ℕ → Result Value Stop → Type 0
FoundAt cs b i texts (Ok v) = (r : List Datum) × (IsKey cs b r × (datum_of v texts ≡ slice_index_or r i null))
FoundAt cs b i texts (Err p) = NoKeyAt cs b p.at

-- a value given out, a text with its bytes at the front of the output
abbrev pub HandedOut : Datum → List ℕ → List ℕ → Result Value KeyFault → Type 0
HandedOut d before after (Ok v) = Gives d v before after
HandedOut d before after (Err f) = (f ≡ Room) × (length before < length (spelled_in d)) × (after ≡ before)
