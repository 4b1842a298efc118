-- The numbers of the stores' refusals.
use Rattle.std.specs.Prelude.{[], ◌∷◌}
use Rattle.refusals.specs.Answer.{Told}
use Rattle.stores.specs.declared.fault.StoreFault.{StoreFault}
use Rattle.stores.specs.declared.fault.StoreFault.TheVariants.{NoSuchPage, WrongLength, Damaged, PageLength}

-- each fault's number, and the page beside it
abbrev pub store_told : StoreFault → Told
store_told (NoSuchPage p) = (9, p ∷ [])
store_told WrongLength = (8, [])
store_told (Damaged p) = (10, p ∷ [])
store_told PageLength = (11, [])
