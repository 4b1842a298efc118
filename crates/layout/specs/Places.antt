-- Places in a leaf.
use Rattle.std.specs.Prelude.{◌≡◌, ℕ, ◌+◌, ◌≤◌, cond, List, ◌∷◌, ◌++◌, length, All}
use Rattle.std.specs.List.{flat_map}
use Rattle.codes.specs.Strings.{Less}
use Rattle.layout.specs.declared.place.Place.{Place}
use Rattle.layout.specs.Leaf.{cell, LeafHead}

-- the keys before the place are below the key and those behind it above; the key is between them, or missing
pub record Found (key : List ℕ) (keys : List (List ℕ)) (place : Place) : Type 0 where
  pub before : List (List ℕ)
  pub behind : List (List ℕ)
  pub split : keys ≡ before ++ cond place.present (key ∷ behind) behind
  pub below : All (λ x. Less x key) before
  pub above : All (λ x. Less key x) behind
  pub index : place.index ≡ length before
  pub at : place.at ≡ 4 + length (flat_map cell before)

-- the place is the one behind these keys
abbrev pub Behind : List (List ℕ) → Place → Type 0
Behind before place = (place.index ≡ length before) × (place.at ≡ 4 + length (flat_map cell before))

-- the page has a leaf's head and as many cells as stand before the place, which is in the page and behind the head
abbrev pub HasPlace : List ℕ → Place → Type 0
HasPlace page place = ((number : ℕ) × LeafHead page number × (place.index ≤ number)) × (4 ≤ place.at) × (place.at ≤ length page)
