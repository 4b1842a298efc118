use Rattle.std.proofs.Common.{◌≡◌, ◌*◌, length, take, vec_items}
use Rattle.std.specs.Int.Digits.{number_from_digits}
use Rattle.words.specs.Digits.{written}
use Rattle.words.proofs.tens.pairs.Given as goal

abbrev pub invariant-loop-high : goal.invariant-loop-high
invariant-loop-high l =
    (number_from_digits 100 (vec_items l.all) ≡ written (take (2 * l.high-index) l.digits)) × (length (vec_items l.all) ≡ l.high-index)
