-- The bytes before a mantissa, and the mantissa, as the writer and the reader hold them.
use Rattle.std.specs.Prelude.{◌≡◌, ℕ, ◌%◌, ◌<◌, ◌≤◌, List, ◌∷◌, length, ℤ, Some, None, Ok, Err, Option, Result}
use Rattle.codes.specs.declared.sign.Sign.{Sign}
use Rattle.codes.specs.declared.sign.Sign.TheVariants.{Negative, Positive}
use Rattle.codes.specs.declared.decimal.Decimal.{Decimal}
use Rattle.codes.specs.declared.code.number.reading.Head.{Head}
use Rattle.codes.specs.declared.decimal.digits.Digits.{Digits}
use Rattle.codes.specs.declared.stop.Stop.{Stop}
use Rattle.inline.specs.Listed.{listed}
use Rattle.codes.specs.Decimals.{Range, Row, Trim, Shaped}
use Rattle.codes.specs.Codes.{lead_of, number_code}
use Rattle.codes.specs.Means.{number_of}
use Rattle.codes.specs.Reading.{Starts, Stops}

-- the code of a sign and an exponent: the bytes before a mantissa
abbrev pub InRange : Sign × ℤ → Type 0
InRange q = Range q.1

abbrev pub head_bytes : Sign × ℤ → List ℕ
head_bytes q = lead_of q.0 q.1

-- the code of a decimal's digits
abbrev pub AreDigits : List ℕ → Type 0
AreDigits ds = Row ds × Trim ds

abbrev pub other_sign : Sign → Sign
other_sign Negative = Positive
other_sign Positive = Negative

-- the first byte where the exponent stands in the next one: of 11 or more, and below 0
abbrev pub far_byte : Sign → ℕ
far_byte Negative = 0x08
far_byte Positive = 0x22

abbrev pub small_byte : Sign → ℕ
small_byte Negative = 0x14
small_byte Positive = 0x16

-- a byte from `least` to 240 at the front
abbrev pub ExponentByte : ℕ → List ℕ → Option ℕ → Type 0
ExponentByte least b None = (v : ℕ) (vs : List ℕ) → b ≡ v ∷ vs → least ≤ v → v ≤ 240 → ⊥
ExponentByte least b (Some v) = (least ≤ v) × (v ≤ 240) × ((vs : List ℕ) × (b ≡ v ∷ vs))

abbrev pub HeadRead : List ℕ → Result Head Stop → Type 0
HeadRead b (Ok h) = Starts InRange head_bytes b (h.sign, h.exponent.power) h.len
HeadRead b (Err s) = Stops InRange head_bytes b s.at

abbrev pub DigitsRead : (List ℕ → List ℕ) → List ℕ → Result Digits Stop → Type 0
DigitsRead body b (Ok d) = Starts AreDigits body b (listed d.list) (length (listed d.list))
DigitsRead body b (Err s) = Stops AreDigits body b s.at

abbrev pub DecimalRead : List ℕ → Result (Decimal × ℕ) Stop → Type 0
DecimalRead b (Ok p) = Starts Shaped number_code b (number_of p.0) p.1
DecimalRead b (Err s) = Stops Shaped number_code b s.at

-- a byte that can stand for the digit behind i others
abbrev pub Mark : ℕ → ℕ → Type 0
Mark i b = (b < 200) × (0 < b) × (i ≡ 0 → 1 < b) × (i ≡ 15 → b % 2 ≡ 0)
