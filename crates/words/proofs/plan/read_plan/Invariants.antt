use Rattle.std.proofs.Common.{◌≡◌, true, map, take}
use Rattle.inline.specs.Listed.{listed}
use Rattle.words.specs.Plans.{direction_of, letters}
use Rattle.words.proofs.plan.read_plan.Given as goal

abbrev pub invariant-loop-letter : goal.invariant-loop-letter
invariant-loop-letter l = (letters (take l.letter-index l.word) ≡ true) × (listed l.columns ≡ map direction_of (take l.letter-index l.word))
