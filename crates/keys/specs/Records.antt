-- Records of a plan: their order and their keys. A plan is the directions of its columns.
use Rattle.std.specs.Prelude.{◌≡◌, ℕ, ◌⊎◌, List, [], ◌∷◌, ◌++◌, length}
use Rattle.std.specs.List.{AllByRecursion}
use Rattle.keys.specs.declared.direction.Direction.{Direction}
use Rattle.keys.specs.declared.direction.Direction.TheVariants.{Ascending, Descending}
use Rattle.codes.specs.Strings.{Less, flipped}
use Rattle.codes.specs.Values.{Datum, Valid, Earlier, Even}
use Rattle.codes.specs.Codes.{datum_code}

-- a value's bytes in a column: complemented whole where the column descends
abbrev pub code_in : Direction → Datum → List ℕ
code_in Ascending d = datum_code d
code_in Descending d = flipped (datum_code d)

-- the order in a column: turned where the column descends
abbrev pub EarlierIn : Direction → Datum → Datum → Type 0
EarlierIn Ascending a b = Earlier a b
EarlierIn Descending a b = Earlier b a

-- a key: the columns' codes, joined from left to right
abbrev pub key : List Direction → List Datum → List ℕ
key [] r = []
key (c ∷ cs) [] = []
key (c ∷ cs) (d ∷ r) = code_in c d ++ key cs r

-- a record has a valid value for each column
abbrev pub IsRecord : List Direction → List Datum → Type 0
IsRecord cs r = (length r ≡ length cs) × AllByRecursion Valid r

-- a record, and the length of its key
abbrev pub HasKey : List Direction → List Datum → ℕ → Type 0
HasKey cs r n = IsRecord cs r × (n ≡ length (key cs r))

-- two records compare at the first column whose worths differ
abbrev pub Precedes : List Direction → List Datum → List Datum → Type 0
Precedes [] r s = ⊥
Precedes (c ∷ cs) [] s = ⊥
Precedes (c ∷ cs) (a ∷ r) [] = ⊥
Precedes (c ∷ cs) (a ∷ r) (b ∷ s) = EarlierIn c a b ⊎ (Even a b × Precedes cs r s)

-- records of equal worth
abbrev pub Equals : List Datum → List Datum → Type 0
Equals [] [] = Unit {0}
Equals [] (b ∷ s) = ⊥
Equals (a ∷ r) [] = ⊥
Equals (a ∷ r) (b ∷ s) = Even a b × Equals r s

-- Key order is record order: of two records the earlier has the smaller key and the other way round, and equal worth is equal bytes.
unfoldable pub KeyOrder : List Direction → Type 0
KeyOrder cs = (r s : List Datum) → IsRecord cs r → IsRecord cs s →
    (Precedes cs r s → Less (key cs r) (key cs s)) × (Less (key cs r) (key cs s) → Precedes cs r s)
    × (Equals r s → key cs r ≡ key cs s) × (key cs r ≡ key cs s → Equals r s)
