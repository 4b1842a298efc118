use Rattle.std.proofs.Common.{◌≡◌, ◌-◌, ◌*◌, ◌/◌, ◌^◌, take, length}
use Rattle.header.specs.Directions.{direction_bits}
use Rattle.header.proofs.directions.directions_in.Given as goal

abbrev pub invariant-loop-i : goal.invariant-loop-i
invariant-loop-i l = record { eight : length l.directions ≡ 8; told : direction_bits 8 (take l.i l.directions) ≡ l.bits / 2 ^ (8 - l.i) * 2 ^ (8 - l.i) }
