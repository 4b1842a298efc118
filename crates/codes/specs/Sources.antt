-- The bytes that a reader sees.
use Rattle.std.specs.Prelude.{◌≡◌, ℕ, ◌<◌, Bool, true, false, List, [], ◌∷◌, length, take, Some, None, Option, slice_index}
use Rattle.codes.specs.declared.sign.Sign.{Sign}
use Rattle.codes.specs.declared.sign.Sign.TheVariants.{Negative, Positive}
use Rattle.codes.specs.declared.source.Source.{Source}
use Rattle.codes.specs.Strings.{flip, flipped}
use Rattle.codes.specs.Values.{TextBytes}

abbrev pub seen_as : Bool → List ℕ → List ℕ
seen_as false bs = bs
seen_as true bs = flipped bs

abbrev pub see_as : Bool → ℕ → ℕ
see_as false b = b
see_as true b = flip b

-- the bytes, complemented in a column that descends
abbrev pub seen : Source → List ℕ
seen s = seen_as s.flipped s.bytes.now

-- the first byte and the rest
abbrev pub Split : List ℕ → Option (ℕ × Source) → Type 0
Split b None = b ≡ []
Split b (Some p) = b ≡ p.0 ∷ seen p.1

-- the first byte 00, with none before it
abbrev pub FirstZero : List ℕ → Option ℕ → Type 0
FirstZero b None = TextBytes b
FirstZero b (Some i) = (i < length b) × TextBytes (take i b) × (slice_index b i ≡ 0)

-- bytes ys are xs as a decimal of a sign is read: complemented if it is negative
abbrev pub Through : Sign → List ℕ → List ℕ → Type 0
Through Negative xs ys = (xs ≡ flipped ys) × (ys ≡ flipped xs)
Through Positive xs ys = ys ≡ xs
