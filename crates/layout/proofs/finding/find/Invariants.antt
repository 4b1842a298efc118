use Rattle.std.proofs.Common.{ℕ, ◌≤◌, List, length}
use Rattle.layout.specs.Leaf.{Leaf}
use Rattle.layout.proofs.Finds.{Passed}
use Rattle.layout.proofs.finding.find.Given as goal

abbrev pub invariant-loop-index : goal.invariant-loop-index
invariant-loop-index l = (4 ≤ l.at) × (l.at ≤ length l.page) × ((keys : List (List ℕ)) → Leaf l.page keys → Passed l.page l.key keys l.index l.at)
