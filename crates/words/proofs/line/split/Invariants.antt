use Rattle.std.proofs.Common.{◌<◌, ◌+◌, length, vec_items}
use Rattle.std.specs.Prelude.{MatchOption}
use Rattle.std.specs.Option.{option_map_or}
use Rattle.words.specs.Lines.{Falls, lent}
use Rattle.words.proofs.Splits.{Sofar}
use Rattle.words.proofs.line.split.Given as goal

abbrev pub invariant-loop-rest : goal.invariant-loop-rest
invariant-loop-rest l =
    MatchOption l.rest (Falls l.line (lent (vec_items l.words)) × (0 < length (lent (vec_items l.words)))) (λ bytes. Sofar l.line (lent (vec_items l.words)) bytes.now)

abbrev pub decreases-loop-rest : goal.decreases-loop-rest
decreases-loop-rest l = option_map_or (λ bytes. length bytes.now + 1) l.rest 0
