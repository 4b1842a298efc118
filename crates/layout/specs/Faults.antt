-- Why the cells of a leaf cannot be read.
use Rattle.std.specs.Prelude.{◌≡◌, ℕ, ◌≤◌, ◌⊎◌, List, length}
use Rattle.layout.specs.declared.fault.PageFault.{PageFault}
use Rattle.layout.specs.declared.fault.PageFault.TheVariants.{Damaged, Full, KeyLength}
use Rattle.layout.specs.Leaf.{CellAt, LeafHead}

-- the page has no leaf's head, told at 0, or no whole cell stands at the offset
abbrev pub Stops : List ℕ → PageFault → Type 0
Stops page (Damaged at) =
    ((at ≡ 0) × ((number : ℕ) → LeafHead page number → ⊥)) ⊎ ((at ≤ length page) × ((len : ℕ) → CellAt page at len → ⊥))
Stops page Full = ⊥
Stops page KeyLength = ⊥
