-- Proofs on the order of byte strings. Two strings part where they differ at a place that both have: parting survives whatever follows, and the complement turns it.
use Rattle.std.specs.Prelude.{◌≡◌, ℕ, ◌-◌, ◌<◌, ◌⊎◌, List, [], ◌∷◌, ◌++◌, refl}
use Rattle.std.proofs.Common.{ap, subst, ◌∙◌, append-nil, inl, inr, arith}
use Rattle.codes.specs.Strings.{Less, Begins, Bytes, flipped}
use Rattle.codes.specs.Laws.{Laws}

-- a and b part at a place that both have, and a has the smaller byte there
abbrev pub Parts : List ℕ → List ℕ → Type 0
Parts [] ys = ⊥
Parts (x ∷ xs) [] = ⊥
Parts (x ∷ xs) (y ∷ ys) = (x < y) ⊎ ((x ≡ y) × Parts xs ys)

pub less_irrefl : (a : List ℕ) → Less a a → ⊥
less_irrefl [] h = h
less_irrefl (x ∷ xs) (inl h) = omega arith
less_irrefl (x ∷ xs) (inr h) = less_irrefl xs h.1

pub parts_less : (a b : List ℕ) → Parts a b → Less a b
parts_less [] b h = absurd h
parts_less (x ∷ xs) [] h = absurd h
parts_less (x ∷ xs) (y ∷ ys) (inl h) = inl h
parts_less (x ∷ xs) (y ∷ ys) (inr h) = inr (h.0, parts_less xs ys h.1)

-- before, and not its beginning
pub less_parts : (a b : List ℕ) → Less a b → (Begins a b → ⊥) → Parts a b
less_parts [] [] h n = h
less_parts [] (y ∷ ys) h n = absurd (n (y ∷ ys, refl))
less_parts (x ∷ xs) [] h n = h
less_parts (x ∷ xs) (y ∷ ys) (inl h) n = inl h
less_parts (x ∷ xs) (y ∷ ys) (inr h) n =
    inr (h.0, less_parts xs ys h.1 (λ b. n (b.0, let e = b.1 in let f = h.0 in cc)))

-- two strings that part compare as they do whatever follows, and neither begins the other
pub parts_append : (a b c d : List ℕ) → Parts a b → Parts (a ++ c) (b ++ d)
parts_append [] b c d h = absurd h
parts_append (x ∷ xs) [] c d h = absurd h
parts_append (x ∷ xs) (y ∷ ys) c d (inl h) = inl h
parts_append (x ∷ xs) (y ∷ ys) c d (inr h) = inr (h.0, parts_append xs ys c d h.1)

pub parts_trans : (a b c : List ℕ) → Parts a b → Parts b c → Parts a c
parts_trans [] b c h g = absurd h
parts_trans (x ∷ xs) [] c h g = absurd h
parts_trans (x ∷ xs) (y ∷ ys) [] h g = absurd g
parts_trans (x ∷ xs) (y ∷ ys) (z ∷ zs) (inl h) (inl g) = inl (omega arith)
parts_trans (x ∷ xs) (y ∷ ys) (z ∷ zs) (inl h) (inr g) = inl (omega arith)
parts_trans (x ∷ xs) (y ∷ ys) (z ∷ zs) (inr h) (inl g) = inl (omega arith)
parts_trans (x ∷ xs) (y ∷ ys) (z ∷ zs) (inr h) (inr g) = inr (h.0 ∙ g.0, parts_trans xs ys zs h.1 g.1)

pub parts_after : (p a b : List ℕ) → Parts a b → Parts (p ++ a) (p ++ b)
parts_after [] a b h = h
parts_after (x ∷ p) a b h = inr (refl, parts_after p a b h)

pub parts_begins : (a b : List ℕ) → Parts a b → Begins a b → ⊥
parts_begins [] b h g = absurd h
parts_begins (x ∷ xs) [] h g = absurd h
parts_begins (x ∷ xs) (y ∷ ys) (inl h) g = let e : x ≡ y = let q = g.1 in cc in omega arith
parts_begins (x ∷ xs) (y ∷ ys) (inr h) g = parts_begins xs ys h.1 (g.0, let q = g.1 in cc)

pub parts_begun : (a b : List ℕ) → Parts a b → Begins b a → ⊥
parts_begun [] b h g = absurd h
parts_begun (x ∷ xs) [] h g = absurd h
parts_begun (x ∷ xs) (y ∷ ys) (inl h) g = let e : y ≡ x = let q = g.1 in cc in omega arith
parts_begun (x ∷ xs) (y ∷ ys) (inr h) g = parts_begun xs ys h.1 (g.0, let q = g.1 in cc)

-- the complement turns the order of strings that part
pub parts_flipped : (a b : List ℕ) → Bytes a → Bytes b → Parts a b → Parts (flipped b) (flipped a)
parts_flipped [] b s t h = absurd h
parts_flipped (x ∷ xs) [] s t h = absurd h
parts_flipped (x ∷ xs) (y ∷ ys) s t (inl h) = inl (omega arith)
parts_flipped (x ∷ xs) (y ∷ ys) s t (inr h) = inr (omega arith, parts_flipped xs ys s.1 t.1 h.1)

pub flipped_bytes : (a : List ℕ) → Bytes (flipped a)
flipped_bytes [] = tt
flipped_bytes (x ∷ xs) = (omega arith, flipped_bytes xs)

pub flipped_twice : (a : List ℕ) → Bytes a → flipped (flipped a) ≡ a
flipped_twice [] s = refl
flipped_twice (x ∷ xs) s =
    let e : 255 - (255 - x) ≡ x = omega arith in let f = flipped_twice xs s.1 in cc

pub flipped_append : (a b : List ℕ) → flipped (a ++ b) ≡ flipped a ++ flipped b
flipped_append [] b = refl
flipped_append (x ∷ xs) b = ap (λ t. (255 - x) ∷ t) (flipped_append xs b)

pub bytes_append : (a b : List ℕ) → Bytes a → Bytes b → Bytes (a ++ b)
bytes_append [] b s t = t
bytes_append (x ∷ xs) b s t = (s.0, bytes_append xs b s.1 t)

pub less_asym : (a b : List ℕ) → Less a b → Less b a → ⊥
less_asym [] [] h g = h
less_asym [] (y ∷ ys) h g = g
less_asym (x ∷ xs) [] h g = h
less_asym (x ∷ xs) (y ∷ ys) (inl h) (inl g) = omega arith
less_asym (x ∷ xs) (y ∷ ys) (inl h) (inr g) = omega arith
less_asym (x ∷ xs) (y ∷ ys) (inr h) (inl g) = omega arith
less_asym (x ∷ xs) (y ∷ ys) (inr h) (inr g) = less_asym xs ys h.1 g.1

module _ {M : Type 0} {Coded : M → Type 0} {bytes : M → List ℕ} {less : M → M → Type 0} (laws : Laws Coded bytes less) where
  -- the codes of two different values part: what `rises` and `free` say together
  pub parts : (m n : M) → Coded m → Coded n → less m n → Parts (bytes m) (bytes n)
  parts m n c d h =
      less_parts (bytes m) (bytes n) (laws.rises m n c d h)
      (λ b. less_irrefl (bytes n) (subst (λ (u : M). Less (bytes u) (bytes n)) (laws.free m n c d b) (laws.rises m n c d h)))

  -- smaller bytes mean a smaller value
  pub falls : (m n : M) → Coded m → Coded n → Less (bytes m) (bytes n) → less m n
  falls m n c d h =
      elim (laws.total m n c d) [
        | inl l ↦ l
        | inr r ↦ elim r [
          | inl e ↦ absurd (less_irrefl (bytes n) (subst (λ (u : M). Less (bytes u) (bytes n)) e h))
          | inr l ↦ absurd (less_asym (bytes m) (bytes n) h (laws.rises n m d c l))
        ]
      ]

-- codes that part keep all the laws
pub laws_from_parts : {M : Type 0} {Coded : M → Type 0} {bytes : M → List ℕ} {less : M → M → Type 0} →
    ((m : M) → Coded m → Bytes (bytes m)) → ((m n : M) → Coded m → Coded n → less m n ⊎ ((m ≡ n) ⊎ less n m)) →
    ((m n : M) → Coded m → Coded n → less m n → Parts (bytes m) (bytes n)) → Laws Coded bytes less
laws_from_parts {M} {Coded} {bytes} {less} within total p = record {
  within = within;
  total = total;
  rises = λ m n c d h. parts_less (bytes m) (bytes n) (p m n c d h);
  same = λ m n c d e. free m n c d ([], append-nil (bytes m) ∙ e);
  free = free;
}
  where
    free : (m n : M) → Coded m → Coded n → Begins (bytes m) (bytes n) → m ≡ n
    free m n c d b = elim (total m n c d) [
      | inl h ↦ absurd (parts_begins (bytes m) (bytes n) (p m n c d h) b)
      | inr r ↦ elim r [ inl e ↦ e | inr h ↦ absurd (parts_begun (bytes n) (bytes m) (p n m d c h) b) ]
    ]

-- the complement of a code keeps the laws, in the turned order
pub descending : {M : Type 0} {Coded : M → Type 0} {bytes : M → List ℕ} {less : M → M → Type 0} → Laws Coded bytes less →
    Laws Coded (λ m. flipped (bytes m)) (λ m n. less n m)
descending {M} {Coded} {bytes} {less} laws =
    laws_from_parts (λ m c. flipped_bytes (bytes m))
    (λ m n c d. elim (laws.total m n c d) [ inl h ↦ inr (inr h) | inr r ↦ elim r [ inl e ↦ inr (inl e) | inr h ↦ inl h ] ])
    (λ m n c d h. parts_flipped (bytes n) (bytes m) (laws.within n d) (laws.within m c) (parts laws n m d c h))
