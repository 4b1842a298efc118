-- Directions as bits.
use Rattle.std.specs.Prelude.{ℕ, ◌+◌, ◌-◌, ◌*◌, ◌^◌, List, [], ◌∷◌}
use Rattle.keys.specs.declared.direction.Direction.{Direction}
use Rattle.keys.specs.declared.direction.Direction.TheVariants.{Ascending, Descending}

-- 1 for a descending column
abbrev pub direction_bit : Direction → ℕ
direction_bit Ascending = 0
direction_bit Descending = 1

-- a bit for each column, the first one the highest of k, those unused 0
abbrev pub direction_bits : ℕ → List Direction → ℕ
direction_bits k [] = 0
direction_bits k (d ∷ ds) = direction_bit d * 2 ^ (k - 1) + direction_bits (k - 1) ds
