use Rattle.std.proofs.Common.{ℕ, ◌++◌, List, ◌≤◌, length}
use Rattle.layout.specs.Leaf.{Leaf}
use Rattle.layout.specs.Places.{Behind}
use Rattle.layout.proofs.Halfway.{Turned}
use Rattle.layout.proofs.halving.half_way.Given as goal

abbrev pub invariant-loop-turn : goal.invariant-loop-turn
invariant-loop-turn l =
    (4 ≤ l.at) × (l.at ≤ length l.page) × (l.index ≤ l.turn)
    × ((before behind : List (List ℕ)) → Leaf l.page (before ++ behind) → Behind before l.place → Turned before behind l.key l.page l.turn l.index l.at l.half)
