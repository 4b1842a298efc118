use Rattle.std.proofs.Common.{◌≡◌, ℕ, ◌+◌, ◌≤◌, ◌++◌, List, length, drop, All}
use Rattle.std.specs.List.{flat_map}
use Rattle.layout.specs.Leaf.{cell, Sized}
use Rattle.layout.proofs.cells.cells_end.Given as goal

abbrev pub invariant-loop-i : goal.invariant-loop-i
invariant-loop-i l =
    (l.at ≤ l.end) × (l.end ≤ length l.page)
    × ((keys : List (List ℕ)) (rest : List ℕ) → drop l.at l.page ≡ flat_map cell keys ++ rest → All Sized keys → length keys ≡ l.count →
    (drop l.end l.page ≡ flat_map cell (drop l.i keys) ++ rest) × (l.end + length (flat_map cell (drop l.i keys)) ≡ l.at + length (flat_map cell keys)))
