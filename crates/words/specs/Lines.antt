-- Lines and the words that they fall into.
use Rattle.std.specs.Prelude.{◌≡◌, ℕ, ◌<◌, ◌⊎◌, List, [], ◌∷◌, ◌++◌, map, length, ◌≢◌, Option, MatchOption}
use Rattle.std.specs.Borrow.{Bor}
use Rattle.std.specs.List.{AllByRecursion}

-- no byte is this one
abbrev pub Free : ℕ → List ℕ → Type 0
Free b bytes = AllByRecursion (λ x. x ≢ b) bytes

-- a word that begins with a mark, ends with the next one and may hold spaces
abbrev pub Quoted : List ℕ → Type 0
Quoted w = (inner : List ℕ) × Free 34 inner × (w ≡ 34 ∷ (inner ++ (34 ∷ [])))

-- any other word holds neither a space nor a mark
abbrev pub Plain : List ℕ → Type 0
Plain w = (0 < length w) × Free 32 w × Free 34 w

abbrev pub IsWord : List ℕ → Type 0
IsWord w = Plain w ⊎ Quoted w

-- words with one space between two of them
abbrev pub spaced : List (List ℕ) → List ℕ
spaced [] = []
spaced (w ∷ []) = w
spaced (w ∷ v ∷ ws) = w ++ (32 ∷ spaced (v ∷ ws))

-- the bytes of lent words
abbrev pub lent : List (Bor (List ℕ)) → List (List ℕ)
lent refs = map (λ r. r.now) refs

-- a line falls into these words
abbrev pub Falls : List ℕ → List (List ℕ) → Type 0
Falls line ws = (spaced ws ≡ line) × AllByRecursion IsWord ws

-- bytes are this word, alone or with a space and what is lent behind it
abbrev pub FirstWord : List ℕ → List ℕ → Option (Bor (List ℕ)) → Type 0
FirstWord bytes w behind = IsWord w × MatchOption behind (bytes ≡ w) (λ next. bytes ≡ w ++ (32 ∷ next.now))

-- nothing, or a first byte b
abbrev pub Stops : ℕ → List ℕ → Type 0
Stops b bytes = (bytes ≡ []) ⊎ ((next : List ℕ) × (bytes ≡ b ∷ next))

-- bytes begin with no word that a space or nothing follows
abbrev pub NoFirstWord : List ℕ → Type 0
NoFirstWord bytes = (w tail : List ℕ) → IsWord w → Stops 32 tail → bytes ≢ w ++ tail

-- a line falls into no words, be it one or more
abbrev pub NoWords : List ℕ → Type 0
NoWords line = (w : List ℕ) (ws : List (List ℕ)) → Falls line (w ∷ ws) → ⊥
