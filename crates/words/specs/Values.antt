-- Values as words.
use Rattle.std.specs.Prelude.{◌≡◌, ℕ, Bool, cond, not, ◌&&◌, ◌⊎◌, List, [], ◌∷◌, ◌++◌, ◌==◌, ◌≢◌, nat_le}
use Rattle.std.specs.List.{list_all}
use Rattle.codes.specs.Decimals.{naught, amount}
use Rattle.codes.specs.Strings.{Bytes}
use Rattle.codes.specs.Values.{Datum, null, decimal, text}
use Rattle.words.specs.Hex.{hex}
use Rattle.words.specs.Lines.{Free}

-- the word null
abbrev pub null_word : List ℕ
null_word = 110 ∷ (117 ∷ (108 ∷ (108 ∷ [])))

-- a text between marks
abbrev pub quoted : List ℕ → List ℕ
quoted t = 34 ∷ (t ++ (34 ∷ []))

-- a text as hexadecimal pairs behind a tilde
abbrev pub tilded : List ℕ → List ℕ
tilded t = 126 ∷ hex t

-- a word writes a value: what is said here of null and texts
abbrev pub Writes : List ℕ → Datum → Type 0
Writes w null = w ≡ null_word
Writes w (decimal n) = Unit {0}
Writes w (text t) = (Free 34 t × (w ≡ quoted t)) ⊎ (w ≡ tilded t)

-- neither null nor a text is written by this word
abbrev pub NoText : List ℕ → Type 0
NoText w = (w ≢ null_word) × ((t : List ℕ) → Bytes t → Writes w (text t) → ⊥)

-- a decimal comes only from a word that writes neither null nor a text
abbrev pub Apart : List ℕ → Datum → Type 0
Apart w null = Unit {0}
Apart w (decimal n) = NoText w
Apart w (text t) = Unit {0}

-- what a word is read as
abbrev pub ReadAs : List ℕ → Datum → Type 0
ReadAs w d = Writes w d × Apart w d

-- whether a byte is printable ASCII and no mark
abbrev pub typable : ℕ → Bool
typable b = nat_le 32 b && (nat_le b 126 && not (b == 34))

-- whether each byte is
abbrev pub all_typable : List ℕ → Bool
all_typable bs = list_all typable bs

-- a text as it is printed
abbrev pub text_shown : List ℕ → List ℕ
text_shown t = cond (all_typable t) (quoted t) (tilded t)

-- what printing a value adds to the bytes before: exact for null, zero and texts
abbrev pub Shown : Datum → List ℕ → List ℕ → Type 0
Shown null before after = after ≡ before ++ null_word
Shown (decimal naught) before after = after ≡ before ++ (48 ∷ [])
Shown (decimal (amount s e ds)) before after = Unit {0}
Shown (text t) before after = after ≡ before ++ text_shown t
