use Rattle.std.proofs.Common.{arith, ap, ◌≡◌, ◌+◌, ◌*◌, ◌-◌, ◌%◌, ◌^◌, take, slice_index_or}
use Rattle.std.proofs.lemmas.Nat.{one_shl}
use Rattle.std.proofs.lemmas.List.{length-take-le}
use Rattle.keys.specs.declared.direction.Direction.TheVariants.{Ascending}
use Rattle.header.specs.Directions.{direction_bit}
use Rattle.header.proofs.Columns.{one_further, bits_below}
use Rattle.header.proofs.directions.bits_of.Goals as goal
use Rattle.header.proofs.directions.bits_of.Goals.{in-Descending, in_default}

pub overflow_add-bits : goal.overflow_add-bits
overflow_add-bits c =
    let ds = c.args.directions.now in
    let i = c.loop-i.i in
    let p = 2 ^ (7 - i) in
    let s : 1 * 2 ^ (7 - i) % 256 ≡ 2 ^ (7 - i) = one_shl (7 - i) 8 (omega arith) in
    let e : direction_bit (slice_index_or ds i Ascending) * p ≡ 1 * p = ap (λ z. direction_bit z * p) c.in-Descending.is in
    let f = one_further ds i Ascending c.loop-i-test.true c.requires in
    let b = bits_below 8 (take (i + 1) ds) (omega (arith, length-take-le (i + 1) ds)) in
    let n = c.loop-i.invariant in
    omega (arith, s, e, f, b, n)

pub loop-i-preserved : goal.loop-i-preserved
loop-i-preserved c =
    let ds = c.args.directions.now in
    let i = c.loop-i.i in
    let p = 2 ^ (7 - i) in
    let s : 1 * 2 ^ (7 - i) % 256 ≡ 2 ^ (7 - i) = one_shl (7 - i) 8 (omega arith) in
    let f = one_further ds i Ascending c.loop-i-test.true c.requires in
    let n = c.loop-i.invariant in
    elim c.match-direction.branch [
      | in-Descending w ↦ let e : direction_bit (slice_index_or ds i Ascending) * p ≡ 1 * p = ap (λ z. direction_bit z * p) w.in-Descending.is in omega (arith, s, e, f, n, w.bits-is)
      | in_default w ↦ let e : direction_bit (slice_index_or ds i Ascending) * p ≡ 0 * p = ap (λ z. direction_bit z * p) w.in_default.is in omega (arith, e, f, n, w.bits-is)
    ]
