-- Decimals written in base ten.
use Rattle.std.specs.Prelude.{◌≡◌, ℕ, ◌*◌, ◌^◌, List, length, ℤ, pos, ◌+ℤ◌, ◌-ℤ◌, ◌*ℤ◌}
use Rattle.std.specs.Int.Digits.{number_from_digits}
use Rattle.codes.specs.declared.sign.Sign.{Sign}
use Rattle.codes.specs.declared.sign.Sign.TheVariants.{Negative, Positive}
use Rattle.codes.specs.Decimals.{Number, naught, amount}
use Rattle.words.specs.Digits.{written}

-- m × 10^x and n × 10^y are the same number
abbrev pub SameTens : ℕ → ℤ → ℕ → ℤ → Type 0
SameTens m x n y = (a : ℕ) × (b : ℕ) × (m * 10 ^ a ≡ n * 10 ^ b) × (x +ℤ pos b ≡ y +ℤ pos a)

-- a decimal is worth its sign times the number that the digits write times ten to the power
abbrev pub TenWorth : Sign → List ℕ → ℤ → Number → Type 0
TenWorth s ds power naught = written ds ≡ 0
TenWorth s ds power (amount t e cs) =
    (t ≡ s) × SameTens (written ds) power (number_from_digits 100 cs) (pos 2 *ℤ (e -ℤ pos (length cs)))

-- the byte of a sign
abbrev pub sign_byte : Sign → ℕ
sign_byte Positive = 43
sign_byte Negative = 45
