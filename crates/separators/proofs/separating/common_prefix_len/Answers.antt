use Rattle.separators.proofs.Fronts.{have_in_common}
use Rattle.separators.proofs.separating.common_prefix_len.Goals as goal

pub returns-clause-front : goal.returns-clause-front
returns-clause-front c = have_in_common c.args.left.now c.args.right.now
