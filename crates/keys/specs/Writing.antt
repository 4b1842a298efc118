-- What the writing of a key answers and leaves.
use Rattle.std.specs.Prelude.{◌≡◌, ℕ, ◌+◌, cond, List, [], ◌∷◌, ◌++◌, length, drop, Some, None, Option, ◌==◌, nat_le, sum_by}
use Rattle.refusals.specs.Answer.{Answer, gives, refuses}
use Rattle.keys.specs.declared.direction.Direction.{Direction}
use Rattle.codes.specs.Values.{Datum, clean}
use Rattle.codes.specs.Codes.{datum_code}
use Rattle.codes.specs.Laws.{counted}
use Rattle.keys.specs.Records.{IsRecord, key}

-- the first column, counted from c, whose value is a text with a byte 00
abbrev pub zero_column : ℕ → List Datum → Option ℕ
zero_column c [] = None
zero_column c (d ∷ r) = cond (clean d) (zero_column (c + 1) r) (Some c)

-- refused by 4 with that column
abbrev pub unless_zero : Option ℕ → ℕ → Answer ℕ
unless_zero None n = gives n
unless_zero (Some c) n = refuses 4 (c ∷ [])

-- the length of all columns' codes together, which no direction changes
abbrev pub codes_length : List Datum → ℕ
codes_length r = sum_by (λ d. length (datum_code d)) r

-- the length of a record's codes: 5, then 4 in each column from the left
unfoldable pub columns_answer : List Direction → List Datum → Answer ℕ
columns_answer cs r = cond (length r == length cs) (unless_zero (zero_column 1 r) (length (key cs r))) (refuses 5 [])

-- the codes of a record have this length, as far as a usize can tell it
abbrev pub CodesLen : List Direction → List Datum → ℕ → Type 0
CodesLen cs r n = (columns_answer cs r ≡ gives (length (key cs r))) × (n ≡ counted (length (key cs r))) × IsRecord cs r

-- a length up to a limit, refused above it
abbrev pub at_most : ℕ → ℕ → Answer ℕ → Answer ℕ
at_most limit number (gives n) = cond (nat_le n limit) (gives n) (refuses number [])
at_most limit number (refuses other beside) = refuses other beside

-- the length of a record's key: 5, 4, then 6
abbrev pub key_answer : List Direction → List Datum → Answer ℕ
key_answer cs r = at_most 120 6 (columns_answer cs r)

-- a key written to an output of `room` bytes: 5, 4, 6, then 8
abbrev pub write_answer : List Direction → List Datum → ℕ → Answer ℕ
write_answer cs r room = at_most room 8 (key_answer cs r)

-- bytes at the front of an output where the answer is their length; after a refusal the output stays
abbrev pub fronted : Answer ℕ → List ℕ → List ℕ → List ℕ
fronted (gives n) bytes out = bytes ++ drop n out
fronted (refuses number beside) bytes out = out

-- the output afterwards
abbrev pub written_output : List Direction → List Datum → List ℕ → List ℕ
written_output cs r out = fronted (write_answer cs r (length out)) (key cs r) out
