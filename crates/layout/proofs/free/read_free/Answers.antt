use Rattle.layout.proofs.Frees.{free_accepts}
use Rattle.layout.proofs.free.read_free.Goals as goal

pub returns-clause-accepts : goal.returns-clause-accepts
returns-clause-accepts c = free_accepts c.args.page.now c.free_link.result c.free_link.ensures
