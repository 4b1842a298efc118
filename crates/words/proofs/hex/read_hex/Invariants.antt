use Rattle.std.proofs.Common.{◌*◌, take, vec_items}
use Rattle.words.specs.Hex.{Added}
use Rattle.words.proofs.hex.read_hex.Given as goal

abbrev pub invariant-loop-high : goal.invariant-loop-high
invariant-loop-high l = Added (take (2 * l.high-index) l.word) (vec_items l.initial.out) (vec_items l.out)
