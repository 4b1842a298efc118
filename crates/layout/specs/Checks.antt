-- What the check of a whole leaf tells.
use Rattle.std.specs.Prelude.{◌≡◌, ℕ, ◌+◌, ◌<◌, ◌⊎◌, List, [], ◌∷◌, ◌++◌, length, drop, slice_index, All, Some}
use Rattle.std.specs.List.{flat_map}
use Rattle.codes.specs.Strings.{Less}
use Rattle.layout.specs.declared.fault.PageFault.{PageFault}
use Rattle.layout.specs.declared.fault.PageFault.TheVariants.{Damaged, Full, KeyLength}
use Rattle.layout.specs.Pages.{FirstNonzero}
use Rattle.layout.specs.Leaf.{cell, Sized, Rising, CellAt, LeafHead}

-- behind its head the page begins with the cells of these keys, which rise
pub record Begins (page : List ℕ) (keys : List (List ℕ)) : Type 0 where
  pub front : drop 4 page ≡ flat_map cell keys ++ drop (4 + length (flat_map cell keys)) page
  pub sized : All Sized keys
  pub rising : Rising keys

-- the last of the keys, or the empty string, which stands before every key
abbrev pub Ends : List (List ℕ) → List ℕ → Type 0
Ends keys last = ((keys ≡ []) × (last ≡ [])) ⊎ ((front : List (List ℕ)) × (keys ≡ front ++ last ∷ []))

-- the first thing that is wrong in a page that is to be a leaf: its length, its head, its link, a cell that is not whole or not above the one before, or a byte behind the last cell that is not 00
pub data Wrong (page : List ℕ) (at : ℕ) : Type 0 where
  in_length : at ≡ 0 → 1024 < length page → Wrong page at
  in_head : at ≡ 0 → ((number : ℕ) → LeafHead page number → ⊥) → Wrong page at
  in_link : at ≡ 2 → (slice_index page 2 + slice_index page 3 ≡ 0 → ⊥) → Wrong page at
  in_cell : (number : ℕ) (keys : List (List ℕ)) → LeafHead page number → Begins page keys → length keys < number → at ≡ 4 + length (flat_map cell keys) →
      ((len : ℕ) → CellAt page at len → ⊥) → Wrong page at
  in_order : (number : ℕ) (keys : List (List ℕ)) (last key : List ℕ) → LeafHead page number → Begins page keys → length keys < number → at ≡ 4 + length (flat_map cell keys) →
      Ends keys last → drop at page ≡ cell key ++ drop (at + (1 + length key)) page → (Less last key → ⊥) → Wrong page at
  in_rest : (keys : List (List ℕ)) (i : ℕ) → LeafHead page (length keys) → Begins page keys → at ≡ 4 + length (flat_map cell keys) + i →
      FirstNonzero (drop (4 + length (flat_map cell keys)) page) (Some i) → Wrong page at

-- the fault tells where
abbrev pub NotLeaf : List ℕ → PageFault → Type 0
NotLeaf page (Damaged at) = Wrong page at
NotLeaf page Full = ⊥
NotLeaf page KeyLength = ⊥
