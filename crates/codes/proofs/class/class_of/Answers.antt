use Rattle.std.proofs.Common.{arith}
use Rattle.codes.proofs.Tables.{table}
use Rattle.codes.proofs.class.class_of.Goals as goal

pub returns : goal.returns
returns c = rw c.from.ensures (table c.args.first (omega arith))
