use Rattle.std.proofs.Common.{◌≡◌, true, take}
use Rattle.words.specs.Digits.{all_digits, written}
use Rattle.words.proofs.digits.digits_value.Given as goal

abbrev pub invariant-loop-b : goal.invariant-loop-b
invariant-loop-b l = (all_digits (take l.b-index l.word) ≡ true) × (l.n ≡ written (take l.b-index l.word))
