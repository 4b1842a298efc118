-- Decimals: their shape, what one is worth, and how two compare.
use Rattle.std.specs.Prelude.{ℕ, ◌+◌, ◌-◌, ◌*◌, ◌^◌, ◌<◌, ◌≤◌, List, length, ℤ, pos, negsuc, neg_ℤ, ◌<ℤ◌, slice_index, unsigned_abs}
use Rattle.std.specs.Int.Digits.{number_from_digits}
use Rattle.codes.specs.declared.sign.Sign.{Sign}
use Rattle.codes.specs.declared.sign.Sign.TheVariants.{Negative, Positive}

-- zero, or a sign, an exponent E and centimal digits d1 to dn (digits in base 100)
pub data Number : Type 0 where
  naught : Number
  amount : Sign → ℤ → List ℕ → Number

-- E + 256
abbrev pub raised : ℤ → ℕ
raised (pos n) = 256 + n
raised (negsuc k) = 255 - k

abbrev pub signed : Sign → ℕ → ℤ
signed Positive n = pos n
signed Negative n = neg_ℤ (pos n)

-- the worth, sign × N × 100^(E − n), times 100^256: this one power of 100 makes every worth a whole number
abbrev pub worth : Number → ℤ
worth naught = pos 0
worth (amount s e ds) = signed s (number_from_digits 100 ds * 100 ^ (raised e - length ds))

abbrev pub Smaller : Number → Number → Type 0
Smaller a b = worth a <ℤ worth b

-- E is from −240 to 240
abbrev pub Range : ℤ → Type 0
Range e = unsigned_abs e ≤ 240

-- 1 to 16 digits, each 0 to 99
abbrev pub Row : List ℕ → Type 0
Row ds = (1 ≤ length ds) × (length ds ≤ 16) × ((k : ℕ) → k < length ds → slice_index ds k < 100)

-- neither the first digit nor the last is 0
abbrev pub Trim : List ℕ → Type 0
Trim ds = (0 < slice_index ds 0) × (0 < slice_index ds (length ds - 1))

pub record Shape (e : ℤ) (ds : List ℕ) : Type 0 where
  pub range : Range e
  pub row : Row ds
  pub trim : Trim ds

-- the shape that every decimal has
abbrev pub Shaped : Number → Type 0
Shaped naught = Unit {0}
Shaped (amount s e ds) = Shape e ds
