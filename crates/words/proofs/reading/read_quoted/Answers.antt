use Rattle.std.proofs.Common.{◌<◌, length, rules}
use Rattle.words.proofs.Fronts.{not_last}
use Rattle.words.proofs.reading.read_quoted.Goals as goal

pub returns-then-not-is_empty : goal.returns-then-not-is_empty
returns-then-not-is_empty c =
    let close = c.in_ok-ok_or.field-0.now in
    let some : 0 < length close = search rules in
    λ _. not_last c.args.behind.now c.cut_at.result.0.now close c.cut_at.ensures.before (rw c.in_ok-ok_or.ensures.ok_part at c.cut_at.ensures.parts) some
