-- Byte strings: their order, and beginnings.
use Rattle.std.specs.Prelude.{◌≡◌, ℕ, ◌-◌, ◌<◌, ◌⊎◌, List, [], ◌∷◌, ◌++◌, map}

-- a stands before b: byte by byte, and a proper beginning first
abbrev pub Less : List ℕ → List ℕ → Type 0
Less [] [] = ⊥
Less [] (y ∷ ys) = Unit {0}
Less (x ∷ xs) [] = ⊥
Less (x ∷ xs) (y ∷ ys) = (x < y) ⊎ ((x ≡ y) × Less xs ys)

-- a begins b
abbrev pub Begins : List ℕ → List ℕ → Type 0
Begins a b = (c : List ℕ) × (a ++ c ≡ b)

-- each number is a byte
abbrev pub Bytes : List ℕ → Type 0
Bytes [] = Unit {0}
Bytes (x ∷ xs) = (x < 256) × Bytes xs

-- a byte with every bit flipped
abbrev pub flip : ℕ → ℕ
flip x = 255 - x

-- the complement: every bit of every byte flipped
abbrev pub flipped : List ℕ → List ℕ
flipped xs = map flip xs
