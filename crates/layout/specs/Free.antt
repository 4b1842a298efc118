-- Free pages.
use Rattle.std.specs.Prelude.{◌≡◌, ℕ, ◌+◌, ◌⊎◌, List, [], take, drop, Some}
use Rattle.layout.specs.declared.fault.PageFault.{PageFault}
use Rattle.layout.specs.declared.fault.PageFault.TheVariants.{Damaged, Full, KeyLength}
use Rattle.layout.specs.Pages.{head, page_bytes, FirstNonzero}

-- a free page of this length: its link leads to the next one, or is 0 in the last
abbrev pub free_bytes : ℕ → ℕ → List ℕ
free_bytes len next = page_bytes len (head 3 0 next) []

-- the bytes start with a free page's head
abbrev pub HasFreeHead : List ℕ → Type 0
HasFreeHead page = (next : ℕ) × (take 4 page ≡ head 3 0 next)

-- where a page stops to be a free one: at 0 if it has no such head, or at the first byte behind the head that is not 00
abbrev pub StopsFree : List ℕ → ℕ → Type 0
StopsFree page at =
    ((at ≡ 0) × (HasFreeHead page → ⊥)) ⊎ (HasFreeHead page × ((i : ℕ) × (at ≡ 4 + i) × FirstNonzero (drop 4 page) (Some i)))

-- the fault tells where
abbrev pub NoFree : List ℕ → PageFault → Type 0
NoFree page (Damaged at) = StopsFree page at
NoFree page Full = ⊥
NoFree page KeyLength = ⊥
