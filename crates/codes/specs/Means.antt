-- What the values of the code stand for.
use Rattle.std.specs.Prelude.{ℕ, List, take, drop}
use Rattle.inline.specs.Listed.{listed}
use Rattle.codes.specs.declared.decimal.Decimal.{Decimal}
use Rattle.codes.specs.declared.decimal.Decimal.TheVariants.{Zero, Amount}
use Rattle.codes.specs.declared.value.Text.{Text}
use Rattle.codes.specs.declared.value.Value.{Value}
use Rattle.codes.specs.declared.value.Value.TheVariants.{Null as NullValue, Decimal as DecimalValue, Text as TextValue}
use Rattle.codes.specs.Decimals.{Number, naught, amount}
use Rattle.codes.specs.Values.{Datum, null, decimal, text}

abbrev pub number_of : Decimal → Number
number_of Zero = naught
number_of (Amount a) = amount a.sign a.exponent.power (listed a.digits.list)

-- the bytes of a text, in those that are lent beside it: what there is of them
abbrev pub text_of : Text → List ℕ → List ℕ
text_of t texts = take t.len (drop t.start texts)

-- a value, with the bytes in which its text lies
abbrev pub datum_of : Value → List ℕ → Datum
datum_of NullValue texts = null
datum_of (DecimalValue d) texts = decimal (number_of d)
datum_of (TextValue t) texts = text (text_of t texts)
