use Rattle.codes.proofs.Seens.{bytes_typed}
use Rattle.codes.proofs.source.octets.Goals as goal

pub returns : goal.returns
returns c = record { same = c.split_at.ensures.back; each = bytes_typed c.args.bytes.now c.type_inv.bytes }
