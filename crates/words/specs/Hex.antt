-- Bytes written as upper-case hexadecimal pairs.
use Rattle.std.specs.Prelude.{◌≡◌, ℕ, ◌+◌, ◌/◌, ◌%◌, ◌<◌, cond, List, [], ◌∷◌, ◌++◌, ◌≢◌, nat_lt}
use Rattle.std.specs.List.{flat_map}
use Rattle.codes.specs.Strings.{Bytes}

-- the digit of a number below 16
abbrev pub hex_digit : ℕ → ℕ
hex_digit n = cond (nat_lt n 10) (48 + n) (55 + n)

-- two digits for each byte
abbrev pub hex : List ℕ → List ℕ
hex bs = flat_map (λ b. hex_digit (b / 16) ∷ (hex_digit (b % 16) ∷ [])) bs

-- two digits write a byte
abbrev pub Pair : ℕ → ℕ → ℕ → Type 0
Pair b high low = (b < 256) × (hex_digit (b / 16) ≡ high) × (hex_digit (b % 16) ≡ low)

-- no byte is written by these two
abbrev pub NoPair : ℕ → ℕ → Type 0
NoPair high low = (b : ℕ) → Pair b high low → ⊥

-- the bytes that a word writes are added to those before
pub record Added (word before after : List ℕ) : Type 0 where
  pub bytes : List ℕ
  pub within : Bytes bytes
  pub writes : hex bytes ≡ word
  pub joins : after ≡ before ++ bytes

-- no bytes are written by this word
abbrev pub NoHex : List ℕ → Type 0
NoHex word = (bs : List ℕ) → Bytes bs → hex bs ≢ word
