-- The point at which a page's cells are parted.
use Rattle.std.specs.Prelude.{◌≡◌, ℕ, zero, suc, ◌+◌, ◌-◌, ◌*◌, ◌<◌, ◌≤◌, List, [], ◌∷◌, length, take, drop, sum, All}
use Rattle.separators.specs.declared.half.Half.{Half}

-- how many first cells it takes to make up half of n bytes
abbrev pub cells_to_half : ℕ → List ℕ → ℕ
cells_to_half zero sizes = 0
cells_to_half (suc n) [] = 0
cells_to_half (suc n) (x ∷ xs) = suc (cells_to_half (suc n - 2 * x) xs)

-- the split point of cells of these sizes: so many first cells make up at least half of all
abbrev pub split_point : List ℕ → ℕ
split_point sizes = cells_to_half (sum sizes) sizes

-- the first k cells make up at least half of all, and fewer do not
pub record AreHalf (sizes : List ℕ) (k : ℕ) : Type 0 where
  pub within : k ≤ length sizes
  pub enough : sum sizes ≤ 2 * sum (take k sizes)
  pub fewest : (m : ℕ) → m < k → 2 * sum (take m sizes) < sum sizes

-- too many cells for the room, by one: each has at most c bytes, and three of so many would fit
pub record Overfull (room c : ℕ) (sizes : List ℕ) : Type 0 where
  pub small : All (λ s. s ≤ c) sizes
  pub three : 3 * c ≤ room
  pub over : room < sum sizes
  pub by_one : sum sizes ≤ room + c

-- both sides of a split fit into the room and keep a cell, the left one even where its last cell goes up
pub record Halves (room : ℕ) (sizes : List ℕ) (k : ℕ) : Type 0 where
  pub left_keeps : 2 ≤ k
  pub right_keeps : k < length sizes
  pub left_fits : sum (take k sizes) ≤ room
  pub right_fits : sum (drop k sizes) ≤ room

-- twice what the cells counted so far are short of half
abbrev pub lacking : Half → ℕ
lacking half = half.missing

-- of cells of these sizes those before have been counted, and they are not half of all yet
pub record Counted (sizes before : List ℕ) (half : Half) : Type 0 where
  pub lacks : lacking half ≡ sum sizes - 2 * sum before
  pub short : 2 * sum before < sum sizes
