use Rattle.layout.proofs.Wrongs.{accepts, leaves_same}
use Rattle.layout.proofs.checking.check_leaf.Goals as goal

pub returns-clause-accepts : goal.returns-clause-accepts
returns-clause-accepts c = accepts c.args.page.now c.count_keys.result c.count_keys.ensures

pub returns-clause-once : goal.returns-clause-once
returns-clause-once c = leaves_same c.args.page.now
