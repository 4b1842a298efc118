use Rattle.separators.proofs.HalfWay.{are_half, halves}
use Rattle.separators.proofs.half.Half.new.Goals as goal

pub returns-clause-fewest : goal.returns-clause-fewest
returns-clause-fewest c = are_half

pub returns-clause-halves : goal.returns-clause-halves
returns-clause-halves c = halves
