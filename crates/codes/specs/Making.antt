-- What the making of a decimal answers.
use Rattle.std.specs.Prelude.{ℕ, ◌-◌, Bool, true, cond, not, ◌&&◌, List, [], ◌∷◌, length, ℤ, ◌==◌, nat_le, nat_lt, slice_index, unsigned_abs}
use Rattle.refusals.specs.Answer.{Answer, gives, refuses}
use Rattle.codes.specs.declared.sign.Sign.{Sign}
use Rattle.codes.specs.Decimals.{Number, amount}

-- whether each digit is 0 to 99
abbrev pub centimal : List ℕ → Bool
centimal [] = true
centimal (d ∷ ds) = nat_lt d 100 && centimal ds

-- whether there is a digit, none is above 99, and neither the first nor the last is 0
abbrev pub plain_digits : List ℕ → Bool
plain_digits ds = centimal ds && (not (slice_index ds 0 == 0) && not (slice_index ds (length ds - 1) == 0))

-- a decimal from a sign, an exponent and digits: 1, 2 and 3 in turn
abbrev pub decimal_answer : Sign → ℤ → List ℕ → Answer Number
decimal_answer s e ds =
    cond (plain_digits ds)
    (cond (nat_le (length ds) 16) (cond (nat_le (unsigned_abs e) 240) (gives (amount s e ds)) (refuses 3 [])) (refuses 2 []))
    (refuses 1 [])

-- the digits of a decimal: 1 and 2 in turn
abbrev pub digits_answer : List ℕ → Answer (List ℕ)
digits_answer ds = cond (plain_digits ds) (cond (nat_le (length ds) 16) (gives ds) (refuses 2 [])) (refuses 1 [])

-- the exponent of a decimal: 3
abbrev pub exponent_answer : ℤ → Answer ℤ
exponent_answer e = cond (nat_le (unsigned_abs e) 240) (gives e) (refuses 3 [])
