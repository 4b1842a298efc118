-- The number of each fault of this layer, and the values that stand beside it.
use Rattle.std.specs.Prelude.{[], ◌∷◌}
use Rattle.refusals.specs.Answer.{Told}
use Rattle.header.specs.declared.fault.HeaderFault.{HeaderFault}
use Rattle.header.specs.declared.fault.HeaderFault.TheVariants.{Field, EditOpen}

abbrev pub header_told : HeaderFault → Told
header_told (Field bit) = (12, bit ∷ [])
header_told EditOpen = (13, [])
