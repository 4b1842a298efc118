-- Leaves: their bytes, and the keys that they hold.
use Rattle.std.specs.Prelude.{◌≡◌, ℕ, ◌+◌, ◌*◌, ◌/◌, ◌%◌, ◌<◌, ◌≤◌, List, ◌∷◌, length, slice_index, All, AllPairs}
use Rattle.std.specs.List.{flat_map}
use Rattle.codes.specs.Strings.{Less}
use Rattle.layout.specs.Pages.{head, page_bytes}

-- a key's cell: its length and its bytes
abbrev pub cell : List ℕ → List ℕ
cell key = length key ∷ key

-- the bytes of a key's cell
abbrev pub cell_len : List ℕ → ℕ
cell_len key = 1 + length key

-- a leaf of this length with these keys
abbrev pub leaf_bytes : ℕ → List (List ℕ) → List ℕ
leaf_bytes len keys = page_bytes len (head 1 (length keys) 0) (flat_map cell keys)

-- a key has 1 to 120 bytes
abbrev pub Sized : List ℕ → Type 0
Sized key = (1 ≤ length key) × (length key ≤ 120)

-- each key stands before all later ones
abbrev pub Rising : List (List ℕ) → Type 0
Rising keys = AllPairs Less keys

-- the page is the leaf of these keys; a page has 1,024 bytes at most
pub record Leaf (page : List ℕ) (keys : List (List ℕ)) : Type 0 where
  pub bytes : page ≡ leaf_bytes (length page) keys
  pub sized : All Sized keys
  pub short : length page ≤ 1024

-- a cell with a key of this length stands whole at this offset
pub record CellAt (page : List ℕ) (at len : ℕ) : Type 0 where
  pub within : at + len < length page
  pub read : len ≡ slice_index page at
  pub low : 1 ≤ len
  pub high : len ≤ 120

-- the page has the head of a leaf with this number of cells
pub record LeafHead (page : List ℕ) (number : ℕ) : Type 0 where
  pub long : 4 ≤ length page
  pub kind : slice_index page 0 / 64 ≡ 1
  pub stated : number ≡ slice_index page 0 % 64 * 256 + slice_index page 1
