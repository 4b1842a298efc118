-- The number of each fault of this layer, and the values that stand beside it.
use Rattle.std.specs.Prelude.{[], ◌∷◌}
use Rattle.refusals.specs.Answer.{Told}
use Rattle.codes.specs.declared.fault.KeyFault.{KeyFault}
use Rattle.codes.specs.declared.fault.KeyFault.TheVariants.{Digits, DigitCount, Exponent, ZeroByte, Columns, KeyLength, ReadLength, NoKey, Room}

abbrev pub key_told : KeyFault → Told
key_told Digits = (1, [])
key_told DigitCount = (2, [])
key_told Exponent = (3, [])
key_told (ZeroByte column) = (4, column ∷ [])
key_told Columns = (5, [])
key_told KeyLength = (6, [])
key_told ReadLength = (6, 120 ∷ [])
key_told (NoKey at) = (7, at ∷ [])
key_told Room = (8, [])
