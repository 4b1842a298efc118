use Rattle.std.proofs.Common.{take, Ok}
use Rattle.keys.specs.Reading.{Walked}
use Rattle.keys.proofs.key_reader.KeyReader.walk.Given as goal

abbrev pub invariant-loop-direction : goal.invariant-loop-direction
invariant-loop-direction l = Walked (take l.direction-index l.directions) l.fn.self (Ok l.reader)
