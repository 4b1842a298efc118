use Rattle.std.proofs.Common.{arith, ◌<◌, ◌^◌}
use Rattle.header.proofs.fields.Fields.rest.Goals as goal

pub with-requires-clause-room : goal.with-requires-clause-room
with-requires-clause-room c =
    let a : c.with-number.result < 2 ^ 27 = omega arith in
    let b : c.with-number-2.result < 2 ^ 30 = omega arith in
    let d : c.with-number-3.result < 2 ^ 34 = omega arith in
    let e : c.with-number-4.result < 2 ^ 42 = omega arith in
    let f : c.with-number-5.result < 2 ^ 58 = omega arith in
    let g : c.with-number-6.result < 2 ^ 74 = omega arith in
    let h : c.with-number-7.result < 2 ^ 90 = omega arith in
    let i : c.with-number-8.result < 2 ^ 122 = omega arith in
    omega arith
