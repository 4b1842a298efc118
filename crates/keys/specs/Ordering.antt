-- How records compare by their keys.
use Rattle.std.specs.Prelude.{ℕ, List}
use Rattle.std.specs.declared.cmp.Ordering.{Ordering}
use Rattle.std.specs.Ordering.{MatchOrdering}
use Rattle.codes.specs.Values.{Datum}
use Rattle.keys.specs.declared.direction.Direction.{Direction}
use Rattle.keys.specs.Reading.{IsKey}
use Rattle.keys.specs.Records.{Precedes, Equals}

-- whatever plan and records these are the keys of, the records stand in this order by worth
abbrev pub ByKeys : Ordering → List ℕ → List ℕ → Type 0
ByKeys o a b =
    (cs : List Direction) (r s : List Datum) → IsKey cs a r → IsKey cs b s → MatchOrdering o (Precedes cs r s) (Equals r s) (Precedes cs s r)
