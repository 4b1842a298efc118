use Rattle.std.proofs.Common.{◌≡◌, ◌+◌, take, drop}
use Rattle.std.specs.List.{AllByRecursion}
use Rattle.codes.specs.Laws.{counted}
use Rattle.keys.specs.Means.{data_of}
use Rattle.codes.specs.Values.{Valid}
use Rattle.keys.specs.Writing.{codes_length, zero_column}
use Rattle.keys.proofs.key.values_len.Given as goal

abbrev pub invariant-loop-i : goal.invariant-loop-i
invariant-loop-i l =
    (zero_column (l.i + 1) (drop l.i (data_of l.row)) ≡ zero_column 1 (data_of l.row))
    × AllByRecursion Valid (take l.i (data_of l.row))
    × (l.size ≡ counted (codes_length (take l.i (data_of l.row))))
