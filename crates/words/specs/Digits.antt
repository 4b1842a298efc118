-- Numbers written in base ten.
use Rattle.std.specs.Prelude.{ℕ, ◌-◌, Bool, cond, ◌&&◌, List, map, length, Some, None, Option, nat_le}
use Rattle.std.specs.Char.{is_ascii_digit}
use Rattle.std.specs.List.{list_all}
use Rattle.std.specs.Int.Digits.{number_from_digits}

-- the number that a digit writes; 0 for any other byte
abbrev pub digit_of : ℕ → ℕ
digit_of b = cond (is_ascii_digit b) (b - 48) 0

-- whether each byte is a digit
abbrev pub all_digits : List ℕ → Bool
all_digits bs = list_all is_ascii_digit bs

-- the number that digits write
abbrev pub written : List ℕ → ℕ
written bs = number_from_digits 10 (map digit_of bs)

-- the number that a word of 1 to `most` digits writes
abbrev pub number_word : ℕ → List ℕ → Option ℕ
number_word most bs =
    cond (nat_le 1 (length bs) && (nat_le (length bs) most && all_digits bs)) (Some (written bs)) None
