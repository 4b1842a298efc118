use Rattle.std.proofs.Common.{◌≡◌, take}
use Rattle.inline.specs.Listed.{listed}
use Rattle.codes.specs.Codes.{mantissa}
use Rattle.codes.proofs.code.number.put_mantissa.Given as goal

abbrev pub invariant-loop-i : goal.invariant-loop-i
invariant-loop-i l = take l.i l.out ≡ take l.i (mantissa (listed l.digits.list))
