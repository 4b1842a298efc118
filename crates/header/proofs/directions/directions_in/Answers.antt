use Rattle.std.proofs.Common.{arith, ap, sym, ◌∙◌, ◌≡◌, ◌-◌, ◌/◌, ◌%◌, ◌^◌}
use Rattle.std.proofs.lemmas.List.{length-set}
use Rattle.header.specs.Directions.{direction_bit}
use Rattle.header.proofs.Columns.{one_told}
use Rattle.header.proofs.directions.directions_in.Goals as goal
use Rattle.header.proofs.directions.directions_in.Goals.{then-bits-i-eq1, else-bits-i-eq1}

pub loop-i-preserved : goal.loop-i-preserved
loop-i-preserved c =
    let i = c.loop-i.i in
    let d = c.if-bits-i-eq1.directions in
    let e = c.loop-i.invariant.eight in
    let b : direction_bit d ≡ c.args.bits / 2 ^ (7 - i) % 2 =
    elim c.if-bits-i-eq1.branch [
      | then-bits-i-eq1 w ↦ ap direction_bit w.directions-is ∙ sym w.if-bits-i-eq1.true
      | else-bits-i-eq1 w ↦ ap direction_bit w.directions-is ∙ (let f = w.if-bits-i-eq1.false in omega (arith, f))
    ] in
    record { eight = length-set c.loop-i.directions i d ∙ e; told = one_told c.loop-i.directions c.args.bits i d (omega arith) e b c.loop-i.invariant.told }
