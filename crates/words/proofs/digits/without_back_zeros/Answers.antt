use Rattle.std.proofs.Common.{◌≡◌, ◌-◌, length, get_or, arith}
use Rattle.words.proofs.Tenfold.{back_more}
use Rattle.words.proofs.digits.without_back_zeros.Goals as goal

pub loop-digits-preserved : goal.loop-digits-preserved
loop-digits-preserved c =
    let ds = c.loop-digits.digits.now in
    let zero : get_or ds (length ds - 1) 0 ≡ 48 = omega arith in
    back_more c.args.digits.now ds c.loop-digits.invariant.0 (omega arith) zero c.loop-digits.invariant.1
