-- Worked keys.
use Rattle.std.specs.Prelude.{◌≡◌, ℕ, ◌*◌, ◌^◌, List, [], ◌∷◌, ℤ, pos, negsuc, neg_ℤ}
use Rattle.std.specs.List.{AllByRecursion}
use Rattle.codes.specs.declared.sign.Sign.TheVariants.{Negative, Positive}
use Rattle.codes.specs.Decimals.{Number, naught, amount, worth}
use Rattle.codes.specs.Codes.{number_code}

-- a decimal, its worth times 100^256 (that is, times 10^512), and its code
pub record Line : Type 0 where
  pub is : Number
  pub worth_is : ℤ
  pub code_is : List ℕ

-- 0, 1, 12.5, 0.01, −0.0001, 1e19, 1e20 and −1e20
abbrev pub worked_lines : List Line
worked_lines =
    record { is = naught; worth_is = pos 0; code_is = 0x15 ∷ [] }
    ∷ record { is = amount Positive (pos 1) (1 ∷ []); worth_is = pos (10 ^ 512); code_is = 0x18 ∷ 0x02 ∷ [] }
    ∷ record { is = amount Positive (pos 1) (12 ∷ 50 ∷ []); worth_is = pos (125 * 10 ^ 511); code_is = 0x18 ∷ 0x19 ∷ 0x64 ∷ [] }
    ∷ record { is = amount Positive (pos 0) (1 ∷ []); worth_is = pos (10 ^ 510); code_is = 0x17 ∷ 0x02 ∷ [] }
    ∷ record { is = amount Negative (negsuc 0) (1 ∷ []); worth_is = neg_ℤ (pos (10 ^ 508)); code_is = 0x14 ∷ 0x01 ∷ 0xFD ∷ [] }
    ∷ record { is = amount Positive (pos 10) (10 ∷ []); worth_is = pos (10 ^ 531); code_is = 0x21 ∷ 0x14 ∷ [] }
    ∷ record { is = amount Positive (pos 11) (1 ∷ []); worth_is = pos (10 ^ 532); code_is = 0x22 ∷ 0x0B ∷ 0x02 ∷ [] }
    ∷ record { is = amount Negative (pos 11) (1 ∷ []); worth_is = neg_ℤ (pos (10 ^ 532)); code_is = 0x08 ∷ 0xF4 ∷ 0xFD ∷ [] }
    ∷ []

-- each line holds of the definitions
abbrev pub WorkedKeys : Type 0
WorkedKeys = AllByRecursion (λ l. (worth l.is ≡ l.worth_is) × (number_code l.is ≡ l.code_is)) worked_lines
