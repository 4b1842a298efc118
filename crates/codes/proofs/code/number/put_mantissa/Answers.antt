use Rattle.std.proofs.Common.{◌+◌, ◌*◌, get_or, arith}
use Rattle.inline.specs.Listed.{listed}
use Rattle.codes.proofs.Marks.{marked, mark_byte}
use Rattle.codes.proofs.code.number.put_mantissa.Goals as goal

pub loop-i-preserved : goal.loop-i-preserved
loop-i-preserved c =
    let ds = listed c.args.digits.now.list in
    let i = c.loop-i.i in
    let v = c.as_slice-list.ensures.values in
    let h = rw v at c.loop-i-test.true in
    let f = rw v at c.from.ensures in
    rw v
    (marked ds c.loop-i.out i (2 * get_or ds i 0 + c.from.result) h (omega arith) c.loop-i.invariant (mark_byte ds i c.from.result h f))
