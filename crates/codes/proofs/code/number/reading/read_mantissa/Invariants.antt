use Rattle.std.proofs.Common.{◌≡◌, ◌<◌, length, take}
use Rattle.codes.specs.Sources.{seen}
use Rattle.codes.proofs.Mantissas.{Onward}
use Rattle.codes.proofs.code.number.reading.read_mantissa.Given as goal

abbrev pub invariant-loop-i : goal.invariant-loop-i
invariant-loop-i l = (l.i < 16) × (length l.items ≡ 16) × Onward (seen l.source) l.i (take l.i l.items)
