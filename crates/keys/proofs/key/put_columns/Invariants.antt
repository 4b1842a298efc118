use Rattle.std.proofs.Common.{◌≡◌, ◌++◌, length, take, drop}
use Rattle.keys.specs.Means.{data_of}
use Rattle.keys.specs.Records.{key}
use Rattle.keys.proofs.key.put_columns.Given as goal

abbrev pub invariant-loop-direction : goal.invariant-loop-direction
invariant-loop-direction l =
    let front = key (take (length l.yielded) l.directions) (take (length l.yielded) (data_of l.row)) in
    (l.at ≡ length front) × (l.out ≡ front ++ drop l.at l.initial.out)
