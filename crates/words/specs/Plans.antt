-- Plans written as letters.
use Rattle.std.specs.Prelude.{ℕ, Bool, cond, ◌||◌, List, [], map, ◌==◌}
use Rattle.std.specs.List.{list_all}
use Rattle.refusals.specs.Answer.{Answer, refuses}
use Rattle.keys.specs.declared.direction.Direction.{Direction}
use Rattle.keys.specs.declared.direction.Direction.TheVariants.{Ascending, Descending}
use Rattle.keys.specs.Making.{plan_answer}

-- a is an ascending column, d a descending one
abbrev pub direction_of : ℕ → Direction
direction_of b = cond (b == 97) Ascending Descending

-- whether each letter is a or d
abbrev pub letters : List ℕ → Bool
letters bs = list_all (λ b. b == 97 || b == 100) bs

-- the plan that a word writes, a column for each letter
abbrev pub plan_word : List ℕ → Answer (List Direction)
plan_word w = cond (letters w) (plan_answer (map direction_of w)) (refuses 5 [])
