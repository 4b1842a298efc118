-- The bytes of a header page.
use Rattle.std.specs.Prelude.{ℕ, ◌-◌, cond, List, [], ◌∷◌, ◌++◌, length, replicate}
use Rattle.std.specs.Int.{bytes_high_first}
use Rattle.keys.specs.Means.{directions_of}
use Rattle.header.specs.declared.head.Header.{Header}
use Rattle.header.specs.Packing.{pack, Within}
use Rattle.header.specs.Directions.{direction_bits}

-- the bits of each field: mark, version, edit open, pages, page length, levels, columns, directions, root page, first free page, free pages, rows, zero
abbrev pub widths : List ℕ
widths = 12 ∷ 3 ∷ 1 ∷ 16 ∷ 11 ∷ 3 ∷ 4 ∷ 8 ∷ 16 ∷ 16 ∷ 16 ∷ 32 ∷ 6 ∷ []

-- the number in each of these fields
abbrev pub numbers : Header → List ℕ
numbers h =
    2652 ∷ 1 ∷ cond h.edit_open 1 0 ∷ h.pages ∷ h.page_len ∷ h.levels ∷ length (directions_of h.plan) ∷ direction_bits 8 (directions_of h.plan)
    ∷ h.root ∷ h.first_free ∷ h.free_pages ∷ h.rows ∷ 0 ∷ []

-- a page of this length with these numbers in its fields: 18 bytes, high bytes first, and 00 to the end
unfoldable pub packed_page : ℕ → List ℕ → List ℕ
packed_page len vs = bytes_high_first 18 (pack 0 widths vs) ++ replicate (len - 18) 0

-- the header page of this length
abbrev pub header_bytes : ℕ → Header → List ℕ
header_bytes len h = packed_page len (numbers h)

-- each number of a header fits its field, as those of any header of the code do
abbrev pub InFields : Header → Type 0
InFields h = Within widths (numbers h)
