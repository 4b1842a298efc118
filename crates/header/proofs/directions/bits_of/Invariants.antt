use Rattle.std.proofs.Common.{◌≡◌, take}
use Rattle.header.specs.Directions.{direction_bits}
use Rattle.header.proofs.directions.bits_of.Given as goal

abbrev pub invariant-loop-i : goal.invariant-loop-i
invariant-loop-i l = l.bits ≡ direction_bits 8 (take l.i l.directions)
