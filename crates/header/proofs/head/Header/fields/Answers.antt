use Rattle.std.proofs.Common.{arith, ap, length}
use Rattle.header.specs.Directions.{direction_bits}
use Rattle.header.proofs.Edits.{bit}
use Rattle.header.proofs.head.Header.fields.Goals as goal

pub returns-clause-within : goal.returns-clause-within
returns-clause-within c =
    let ds = c.directions-directions in
    let n = ap length ds.ensures.value in
    let few = ds.ensures.few in
    let b = ap (direction_bits 8) ds.ensures.value in
    let e = c.bits_of.ensures in
    let r = c.bits_of.type_inv in
    (omega arith, (omega arith, (bit c.args.self.edit_open, (omega arith, (omega arith, (omega arith, (omega (arith, n, few), (omega (arith, b, e, r), (omega arith, (omega arith, (omega arith, (omega arith, (omega arith, tt)))))))))))))
