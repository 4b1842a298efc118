-- Numbers in fields of bits, one behind the other, the first one highest.
use Rattle.std.specs.Prelude.{ℕ, ◌+◌, ◌*◌, ◌/◌, ◌%◌, ◌^◌, ◌<◌, List, [], ◌∷◌, sum}

-- a number, and behind it those that follow, in fields of these widths
abbrev pub pack : ℕ → List ℕ → List ℕ → ℕ
pack n [] vs = n
pack n (w ∷ ws) [] = n
pack n (w ∷ ws) (v ∷ vs) = pack (n * 2 ^ w + v) ws vs

-- what lies in fields of these widths at the end of a number
abbrev pub unpack : List ℕ → ℕ → List ℕ
unpack [] n = []
unpack (w ∷ ws) n = n / 2 ^ sum ws % 2 ^ w ∷ unpack ws n

-- each number fits its width
abbrev pub Within : List ℕ → List ℕ → Type 0
Within [] [] = Unit {0}
Within [] (v ∷ vs) = ⊥
Within (w ∷ ws) [] = ⊥
Within (w ∷ ws) (v ∷ vs) = (v < 2 ^ w) × Within ws vs
