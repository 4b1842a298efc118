use Rattle.std.proofs.Common.{arith}
use Rattle.header.proofs.Numbers.{front_below}
use Rattle.header.proofs.bits.number.Goals as goal

pub overflow_mul-number : goal.overflow_mul-number
overflow_mul-number c = let b = front_below c.args.bytes.now c.loop-byte.byte-index 4 (λ i. omega (arith, c.type_inv.bytes i)) (omega arith) in omega arith

pub overflow_add-number : goal.overflow_add-number
overflow_add-number c =
    let b = front_below c.args.bytes.now c.loop-byte.byte-index 4 (λ i. omega (arith, c.type_inv.bytes i)) (omega arith) in
    let t = c.type_inv.bytes c.loop-byte.byte-index in
    omega arith
