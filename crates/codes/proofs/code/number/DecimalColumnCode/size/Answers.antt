use Rattle.std.proofs.Common.{refl, arith}
use Rattle.inline.specs.Listed.{listed}
use Rattle.codes.proofs.Marks.{length_amount, lead_short}
use Rattle.codes.proofs.code.number.DecimalColumnCode.size.Goals as goal

pub returns-in-Amount : goal.returns-in-Amount
returns-in-Amount c =
    let a = c.in-Amount.amount in
    let ds = listed a.digits.list in
    rw c.in-Amount.is
    (refl, record { range = a.exponent.range; row = a.digits.row; trim = a.digits.trim }, omega (arith, c.amount_size.ensures, a.digits.row.1, lead_short a.exponent.power, length_amount a.sign a.exponent.power ds))
