-- What reading a code from the front of some bytes answers.
use Rattle.std.specs.Prelude.{◌≡◌, ℕ, ◌+◌, ◌<◌, ◌≤◌, List, ◌++◌, length, take, drop, Ok, Err, Result}
use Rattle.codes.specs.declared.unread.Unread.{Unread}
use Rattle.codes.specs.declared.unread.Unread.TheVariants.{NoCode, NoRoom}
use Rattle.codes.specs.Strings.{Begins}

module _ {M : Type 0} (Coded : M → Type 0) (bytes : M → List ℕ) where
  -- b starts with the code of m, which has n bytes
  abbrev pub Starts : List ℕ → M → ℕ → Type 0
  Starts b m n = Coded m × (n ≡ length (bytes m)) × Begins (bytes m) b

  -- b begins some code
  abbrev pub Begun : List ℕ → Type 0
  Begun b = (m : M) × (Coded m × Begins b (bytes m))

  -- b starts with no code: up to p it begins one, with the byte at p no more, or it ends there
  abbrev pub Stops : List ℕ → ℕ → Type 0
  Stops b p =
      ((m : M) → Coded m → Begins (bytes m) b → ⊥) × (p ≤ length b) × Begun (take p b) × (p < length b → Begun (take (p + 1) b) → ⊥)

-- The value and the length of its code, with a text's bytes at the front of the lent ones; or where the code stops; or too few lent bytes.
abbrev pub Read : {V M : Type 0} (Coded : M → Type 0) (bytes : M → List ℕ) (means : V → List ℕ → M) (spelled : M → List ℕ) → List ℕ → List ℕ → List ℕ → Result (V × ℕ) Unread → Type 0
Read Coded bytes means spelled b before after (Ok p) =
    Starts Coded bytes b (means p.0 after) p.1 × (after ≡ spelled (means p.0 after) ++ drop (length (spelled (means p.0 after))) before)
Read Coded bytes means spelled b before after (Err (NoCode s)) = Stops Coded bytes b s.at × (after ≡ before)
Read {V} {M} Coded bytes means spelled b before after (Err NoRoom) =
    ((m : M) × (n : ℕ) × (Starts Coded bytes b m n × (length before < length (spelled m)))) × (after ≡ before)
