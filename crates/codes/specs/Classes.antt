-- What the first byte of a code tells.
use Rattle.std.specs.Prelude.{◌≡◌, ℕ, ◌+◌, ◌<◌, ◌≤◌, ◌⊎◌, ◌≢◌}
use Rattle.codes.specs.declared.sign.Sign.TheVariants.{Negative, Positive}
use Rattle.codes.specs.declared.class.Class.{Class}
use Rattle.codes.specs.declared.class.Class.TheVariants.{Foreign, Null, Zero, Text, Near, Far, Small}

-- the first bytes that a class stands for
abbrev pub Rule : ℕ → Class → Type 0
Rule b Null = b ≡ 0x05
Rule b (Far Negative) = b ≡ 0x08
Rule b (Near Negative e) = (e ≤ 10) × (b + e ≡ 0x13)
Rule b (Small Negative) = b ≡ 0x14
Rule b Zero = b ≡ 0x15
Rule b (Small Positive) = b ≡ 0x16
Rule b (Near Positive e) = (e ≤ 10) × (b ≡ 0x17 + e)
Rule b (Far Positive) = b ≡ 0x22
Rule b Text = b ≡ 0x24
Rule b Foreign = ((b < 8) × (b ≢ 0x05)) ⊎ ((b ≡ 0x23) ⊎ (0x24 < b))
