-- What the values of the code stand for.
use Rattle.std.specs.Prelude.{List, map}
use Rattle.inline.specs.Listed.{listed}
use Rattle.codes.specs.Means.{datum_of}
use Rattle.codes.specs.Values.{Datum}
use Rattle.keys.specs.declared.direction.Direction.{Direction}
use Rattle.keys.specs.declared.plan.Plan.{Plan}
use Rattle.keys.specs.declared.row.Record.{Record}

-- a record: what its values stand for, column by column
abbrev pub data_of : Record → List Datum
data_of r = map (λ v. datum_of v r.texts.now) r.values.now

-- a plan: the directions of its columns
abbrev pub directions_of : Plan → List Direction
directions_of p = listed p.columns
