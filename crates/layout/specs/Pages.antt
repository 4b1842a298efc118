-- A page: a head of four bytes, its cells one behind the other, and 00 from there on.
use Rattle.std.specs.Prelude.{◌≡◌, ℕ, ◌+◌, ◌-◌, ◌*◌, ◌/◌, ◌%◌, ◌<◌, List, [], ◌∷◌, ◌++◌, length, replicate, slice_index, Some, None, Option}

-- two bits of kind, 14 bits of number of cells, and a link of 16 bits, high bits first
abbrev pub head : ℕ → ℕ → ℕ → List ℕ
head kind number link = (kind * 64 + number / 256) ∷ number % 256 ∷ link / 256 ∷ link % 256 ∷ []

-- the zeros behind the head and the cells of a page of this length
unfoldable pub zeros : ℕ → List ℕ → List ℕ
zeros len cells = replicate (len - (4 + length cells)) 0

-- a page of this length with this head and these cells
abbrev pub page_bytes : ℕ → List ℕ → List ℕ → List ℕ
page_bytes len first cells = first ++ (cells ++ zeros len cells)

-- the place of the first byte that is not 00
abbrev pub FirstNonzero : List ℕ → Option ℕ → Type 0
FirstNonzero bytes None = bytes ≡ replicate (length bytes) 0
FirstNonzero bytes (Some i) = (i < length bytes) × ((k : ℕ) → k < i → slice_index bytes k ≡ 0) × (slice_index bytes i ≡ 0 → ⊥)
