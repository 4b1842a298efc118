-- Values of any kind and their order: null, then decimals, then texts.
use Rattle.std.specs.Prelude.{◌≡◌, ℕ, ◌<◌, Bool, true, ◌&&◌, List, [], ◌∷◌, nat_lt}
use Rattle.std.specs.List.{AllByRecursion}
use Rattle.codes.specs.Strings.{Less}
use Rattle.codes.specs.Decimals.{Number, Shaped, Smaller, worth}

pub data Datum : Type 0 where
  null : Datum
  decimal : Number → Datum
  text : List ℕ → Datum

-- a text holds no byte 00
abbrev pub TextBytes : List ℕ → Type 0
TextBytes t = AllByRecursion (λ b. (0 < b) × (b < 256)) t

-- what every value of a record is
abbrev pub Valid : Datum → Type 0
Valid null = Unit {0}
Valid (decimal n) = Shaped n
Valid (text t) = TextBytes t

-- whether no byte is 00
abbrev pub no_zero : List ℕ → Bool
no_zero [] = true
no_zero (b ∷ bs) = nat_lt 0 b && no_zero bs

-- whether a value is one that a key can hold: it is no text with a byte 00
abbrev pub clean : Datum → Bool
clean null = true
clean (decimal n) = true
clean (text t) = no_zero t

-- values of different kinds stand in the order of kinds, decimals by worth, texts byte by byte
abbrev pub Earlier : Datum → Datum → Type 0
Earlier null null = ⊥
Earlier null (decimal n) = Unit {0}
Earlier null (text t) = Unit {0}
Earlier (decimal m) null = ⊥
Earlier (decimal m) (decimal n) = Smaller m n
Earlier (decimal m) (text t) = Unit {0}
Earlier (text s) null = ⊥
Earlier (text s) (decimal n) = ⊥
Earlier (text s) (text t) = Less s t

-- values of equal worth
abbrev pub Even : Datum → Datum → Type 0
Even null null = Unit {0}
Even null (decimal n) = ⊥
Even null (text t) = ⊥
Even (decimal m) null = ⊥
Even (decimal m) (decimal n) = worth m ≡ worth n
Even (decimal m) (text t) = ⊥
Even (text s) null = ⊥
Even (text s) (decimal n) = ⊥
Even (text s) (text t) = s ≡ t

-- the bytes of the text in a value, if it is one
abbrev pub spelled_in : Datum → List ℕ
spelled_in null = []
spelled_in (decimal n) = []
spelled_in (text t) = t
