-- What the making of a plan answers.
use Rattle.std.specs.Prelude.{cond, ◌&&◌, List, [], length, nat_le}
use Rattle.refusals.specs.Answer.{Answer, gives, refuses}
use Rattle.keys.specs.declared.direction.Direction.{Direction}

-- a plan of 1 to 8 columns
abbrev pub plan_answer : List Direction → Answer (List Direction)
plan_answer cs = cond (nat_le 1 (length cs) && nat_le (length cs) 8) (gives cs) (refuses 5 [])
