-- The bytes of each value.
use Rattle.std.specs.Prelude.{ℕ, ◌+◌, ◌-◌, ◌*◌, cond, List, [], ◌∷◌, ◌++◌, ℤ, pos, negsuc, nat_lt}
use Rattle.codes.specs.declared.sign.Sign.{Sign}
use Rattle.codes.specs.declared.sign.Sign.TheVariants.{Negative, Positive}
use Rattle.codes.specs.Strings.{flip, flipped}
use Rattle.codes.specs.Decimals.{Number, naught, amount}
use Rattle.codes.specs.Values.{Datum, null, decimal, text}

-- a digit's byte: 2d + 1, but 2d for the last digit
abbrev pub mark : ℕ → List ℕ → ℕ
mark d [] = 2 * d
mark d (e ∷ es) = 2 * d + 1

-- M: a byte for each digit
abbrev pub mantissa : List ℕ → List ℕ
mantissa [] = []
mantissa (d ∷ ds) = mark d ds ∷ mantissa ds

-- what stands before the digits' bytes, by the sign and the exponent E
abbrev pub lead_of : Sign → ℤ → List ℕ
lead_of Negative (pos n) = cond (nat_lt n 11) ((0x13 - n) ∷ []) (0x08 ∷ flip n ∷ [])
lead_of Negative (negsuc k) = 0x14 ∷ (k + 1) ∷ []
lead_of Positive (negsuc k) = 0x16 ∷ flip (k + 1) ∷ []
lead_of Positive (pos n) = cond (nat_lt n 11) ((0x17 + n) ∷ []) (0x22 ∷ n ∷ [])

-- the digits' bytes: M, or its complement in a negative decimal
abbrev pub body_of : Sign → List ℕ → List ℕ
body_of Negative ds = flipped (mantissa ds)
body_of Positive ds = mantissa ds

abbrev pub number_code : Number → List ℕ
number_code naught = 0x15 ∷ []
number_code (amount s e ds) = lead_of s e ++ body_of s ds

abbrev pub text_code : List ℕ → List ℕ
text_code t = 0x24 ∷ (t ++ (0x00 ∷ []))

abbrev pub null_code : List ℕ
null_code = 0x05 ∷ []

abbrev pub datum_code : Datum → List ℕ
datum_code null = null_code
datum_code (decimal n) = number_code n
datum_code (text t) = text_code t
