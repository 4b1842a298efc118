use Rattle.std.proofs.Common.{◌≡◌, ◌*◌, vec_len}
use Rattle.words.proofs.showing.unpaired.Given as goal

abbrev pub invariant-loop-d : goal.invariant-loop-d
invariant-loop-d l = vec_len l.all ≡ 2 * l.d-index
