-- What a list holds.
use Rattle.std.specs.Prelude.{ℕ, List, take}
use Rattle.inline.specs.declared.list.Inline.{Inline}

-- its values, in their order
abbrev pub listed : {T : Type 0} {N : ℕ} → Inline T N → List T
listed l = take l.count l.items
