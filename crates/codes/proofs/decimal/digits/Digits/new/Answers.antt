use Rattle.std.proofs.Common.{◌≤◌, length, sym, ap, arith, length-take}
use Rattle.inline.specs.Listed.{listed}
use Rattle.codes.proofs.Plains.{plain_shape}
use Rattle.codes.proofs.decimal.digits.Digits.new.Goals as goal

pub invariant_of-result : goal.invariant_of-result
invariant_of-result c =
    let l = c.in_ok-list.list in
    let e = rw c.in_ok-list.ensures.ok_part at c.from_slice.ensures in
    let few : length (listed l) ≤ 16 = simp length-take (omega (arith, l.within)) in
    let s = plain_shape c.args.digits.now (sym c.if-not-are_plain.ensures) (omega (arith, ap length e)) in
    rw e (record { row = s.0; trim = s.1 })
