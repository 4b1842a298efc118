use Rattle.std.proofs.Common.{◌≡◌, ℕ, ◌+◌, ◌≤◌, List, length}
use Rattle.std.specs.List.{flat_map}
use Rattle.layout.specs.Leaf.{cell}
use Rattle.layout.specs.Checks.{Begins, Ends}
use Rattle.layout.proofs.checking.rising_end.Given as goal

abbrev pub invariant-loop-index : goal.invariant-loop-index
invariant-loop-index l =
    (keys : List (List ℕ)) × Begins l.page keys × (length keys ≡ l.index) × (l.end ≡ 4 + length (flat_map cell keys)) × (l.end ≤ length l.page) × Ends keys l.last
