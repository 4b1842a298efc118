-- Reading what stands before a mantissa.
use Rattle.std.proofs.Common.{◌≡◌, ℕ, ◌+◌, ◌-◌, ◌<◌, ◌≤◌, Bool, true, false, cond, ltb, ◌⊎◌, List, [], ◌∷◌, ◌++◌, length, take, ℤ, pos, negsuc, ◌-ℤ◌, sym, refl, ap, ◌∙◌, subst, inl, inr, arith, w32, SFits, to_z, of_z, rules}
use Rattle.std.proofs.lemmas.Int.{ints, to_z-of_z}
use Rattle.std.proofs.lemmas.Bool.{cases_order, ltb-true, ltb-false, lt-ltb, le-ltb}
use Rattle.codes.specs.declared.sign.Sign.{Sign}
use Rattle.codes.specs.declared.sign.Sign.TheVariants.{Negative, Positive}
use Rattle.codes.specs.declared.class.Class.{Class}
use Rattle.codes.specs.declared.class.Class.TheVariants.{Foreign, Null, Zero, Near, Far, Small, Text}
use Rattle.codes.specs.Strings.{Begins, flip, flipped}
use Rattle.codes.specs.Decimals.{Range, raised}
use Rattle.codes.specs.Codes.{lead_of}
use Rattle.codes.specs.Classes.{Rule}
use Rattle.codes.specs.Leads.{InRange, head_bytes, far_byte, other_sign, small_byte}
use Rattle.codes.specs.Sources.{Through}
use Rattle.codes.specs.Reading.{Starts, Begun, Stops}
use Rattle.codes.specs.Orders.{parts_begins, parts_begun, parts_trans}
use Rattle.codes.specs.Numbers.{exponents, raised_same, middle}
use Rattle.codes.proofs.Readings.{begins_cons}

-- no head begins another
pub head_free : (a c : Sign × ℤ) → InRange a → InRange c → Begins (head_bytes a) (head_bytes c) → a ≡ c
head_free (Negative, e) (Positive, f) r s h =
    absurd (parts_begins (lead_of Negative e) (lead_of Positive f) (parts_trans (lead_of Negative e) (21 ∷ []) (lead_of Positive f) (middle e r).1 (middle f s).0) h)
head_free (Positive, e) (Negative, f) r s h =
    absurd (parts_begun (lead_of Negative f) (lead_of Positive e) (parts_trans (lead_of Negative f) (21 ∷ []) (lead_of Positive e) (middle f s).1 (middle e r).0) h)
head_free (Positive, e) (Positive, f) r s h =
    elim (cases_order (raised e) (raised f)) [
      | inl q ↦ ap (λ z. (Positive, z)) (raised_same e f r s q)
      | inr q ↦ elim q [
        | inl l ↦ absurd (parts_begins (lead_of Positive e) (lead_of Positive f) (exponents e f r s l).0 h)
        | inr l ↦ absurd (parts_begun (lead_of Positive f) (lead_of Positive e) (exponents f e s r l).0 h)
      ]
    ]
head_free (Negative, e) (Negative, f) r s h =
    elim (cases_order (raised e) (raised f)) [
      | inl q ↦ ap (λ z. (Negative, z)) (raised_same e f r s q)
      | inr q ↦ elim q [
        | inl l ↦ absurd (parts_begun (lead_of Negative f) (lead_of Negative e) (exponents e f r s l).1 h)
        | inr l ↦ absurd (parts_begins (lead_of Negative e) (lead_of Negative f) (exponents f e s r l).1 h)
      ]
    ]

-- what the first byte of a head and the rest are, by sign and exponent
abbrev pub Led : Sign → ℤ → ℕ → List ℕ → Type 0
Led Negative (pos n) y ys = ((n ≤ 10) × (y + n ≡ 0x13) × (ys ≡ [])) ⊎ ((11 ≤ n) × (y ≡ 0x08) × (ys ≡ flip n ∷ []))
Led Negative (negsuc k) y ys = (y ≡ 0x14) × (ys ≡ (k + 1) ∷ [])
Led Positive (negsuc k) y ys = (y ≡ 0x16) × (ys ≡ flip (k + 1) ∷ [])
Led Positive (pos n) y ys = ((n ≤ 10) × (y ≡ 0x17 + n) × (ys ≡ [])) ⊎ ((11 ≤ n) × (y ≡ 0x22) × (ys ≡ n ∷ []))

pub led : (s : Sign) (e : ℤ) (y : ℕ) (ys : List ℕ) → lead_of s e ≡ y ∷ ys → Led s e y ys
led Negative (negsuc k) y ys h = (cc, cc)
led Positive (negsuc k) y ys h = (cc, cc)
led Negative (pos n) y ys h = at (ltb n 11) (ltb-true n 11) (ltb-false n 11) h
  where
    at : (b : Bool) → (b ≡ true → n < 11) → (b ≡ false → 11 ≤ n) → cond b ((0x13 - n) ∷ []) (0x08 ∷ flip n ∷ []) ≡ y ∷ ys → Led Negative (pos n) y ys
    at true t f q = let l = t refl in let z : 0x13 - n ≡ y = cc in inl (omega arith, omega arith, cc)
    at false t f q = inr (f refl, cc, cc)
led Positive (pos n) y ys h = at (ltb n 11) (ltb-true n 11) (ltb-false n 11) h
  where
    at : (b : Bool) → (b ≡ true → n < 11) → (b ≡ false → 11 ≤ n) → cond b ((0x17 + n) ∷ []) (0x22 ∷ n ∷ []) ≡ y ∷ ys → Led Positive (pos n) y ys
    at true t f q = let l = t refl in let z : 0x17 + n ≡ y = cc in inl (omega arith, omega arith, cc)
    at false t f q = inr (f refl, cc, cc)

pub head_full : (q : Sign × ℤ) → (y : ℕ) × (ys : List ℕ) × (head_bytes q ≡ y ∷ ys)
head_full (Negative, negsuc k) = (0x14, (k + 1) ∷ [], refl)
head_full (Positive, negsuc k) = (0x16, flip (k + 1) ∷ [], refl)
head_full (Negative, pos n) = at (ltb n 11)
  where
    at : (b : Bool) → (y : ℕ) × (ys : List ℕ) × (cond b ((0x13 - n) ∷ []) (0x08 ∷ flip n ∷ []) ≡ y ∷ ys)
    at true = (0x13 - n, [], refl)
    at false = (0x08, flip n ∷ [], refl)
head_full (Positive, pos n) = at (ltb n 11)
  where
    at : (b : Bool) → (y : ℕ) × (ys : List ℕ) × (cond b ((0x17 + n) ∷ []) (0x22 ∷ n ∷ []) ≡ y ∷ ys)
    at true = (0x17 + n, [], refl)
    at false = (0x22, n ∷ [], refl)

nothing : Begun InRange head_bytes []
nothing = ((Positive, pos 0), (omega arith, (0x17 ∷ [], refl)))

pub head_none : Stops InRange head_bytes [] 0
head_none = (none, omega arith, nothing, λ l. absurd (omega arith))
  where
    none : (q : Sign × ℤ) → InRange q → Begins (head_bytes q) [] → ⊥
    none q r b = let f = head_full q in let e = ap length b.1 in let g = ap length f.2 in
        let z = subst (λ (u : List ℕ). u ++ b.0 ≡ []) f.2 b.1 in let w = ap length z in omega arith

-- a first byte with which no head begins
pub head_never : (x : ℕ) (xs : List ℕ) → ((q : Sign × ℤ) → InRange q → (ys : List ℕ) → head_bytes q ≡ x ∷ ys → ⊥) → Stops InRange head_bytes (x ∷ xs) 0
head_never x xs never = (none, omega arith, nothing, λ l w. again w.0 w.1.0 w.1.1)
  where
    none : (q : Sign × ℤ) → InRange q → Begins (head_bytes q) (x ∷ xs) → ⊥
    none q r b = let f = head_full q in
        let e = (begins_cons f.0 x f.1 xs (subst (λ (z : List ℕ). Begins z (x ∷ xs)) f.2 b)).0 in
        never q r f.1 (f.2 ∙ ap (λ z. z ∷ f.1) e)

    again : (q : Sign × ℤ) → InRange q → Begins (x ∷ []) (head_bytes q) → ⊥
    again q r b = let f = head_full q in
        let e = (begins_cons x f.0 [] f.1 (subst (λ (z : List ℕ). Begins (x ∷ []) z) f.2 b)).0 in
        never q r f.1 (f.2 ∙ ap (λ z. z ∷ f.1) (sym e))

-- an exponent byte that fits no head with this first byte, or none
pub head_wide : (x : ℕ) (xs : List ℕ) → Begun InRange head_bytes (x ∷ []) →
    ((q : Sign × ℤ) → InRange q → (ys : List ℕ) → head_bytes q ≡ x ∷ ys → (y : ℕ) × (ys ≡ y ∷ []) × ((vs : List ℕ) → xs ≡ y ∷ vs → ⊥)) → Stops InRange head_bytes (x ∷ xs) 1
head_wide x xs some bad = (none, omega arith, some, again xs bad)
  where
    none : (q : Sign × ℤ) → InRange q → Begins (head_bytes q) (x ∷ xs) → ⊥
    none q r b = let f = head_full q in
        let e = begins_cons f.0 x f.1 xs (subst (λ (z : List ℕ). Begins z (x ∷ xs)) f.2 b) in
        let w = bad q r f.1 (f.2 ∙ ap (λ z. z ∷ f.1) e.0) in
        let g = subst (λ (z : List ℕ). Begins z xs) w.1 e.1 in w.2 g.0 (sym g.1)

    again : (xs : List ℕ) → ((q : Sign × ℤ) → InRange q → (ys : List ℕ) → head_bytes q ≡ x ∷ ys → (y : ℕ) × (ys ≡ y ∷ []) × ((vs : List ℕ) → xs ≡ y ∷ vs → ⊥)) →
        1 < length (x ∷ xs) → Begun InRange head_bytes (take (1 + 1) (x ∷ xs)) → ⊥
    again [] bad l w = omega arith
    again (v ∷ vs) bad l (q, w) =
        let f = head_full q in
        let e = begins_cons x f.0 (v ∷ []) f.1 (subst (λ (z : List ℕ). Begins (x ∷ v ∷ []) z) f.2 w.1) in
        let k = bad q w.0 f.1 (f.2 ∙ ap (λ z. z ∷ f.1) (sym e.0)) in
        let g = (begins_cons v k.0 [] [] (subst (λ (z : List ℕ). Begins (v ∷ []) z) k.1 e.1)).0 in
        k.2 vs (ap (λ z. z ∷ vs) g)

-- heads that the first byte tells
pub near_head : (s : Sign) (b e : ℕ) (xs : List ℕ) → Rule b (Near s e) → Starts InRange head_bytes (b ∷ xs) (s, pos e) 1
near_head Negative b e xs r =
    let t : ltb e 11 ≡ true = lt-ltb e 11 (omega (arith, r.0)) in
    let q : 0x13 - e ≡ b = omega (arith, r.0, r.1) in
    (omega (arith, r.0), rw t refl, rw (t, q) (xs, refl))
near_head Positive b e xs r =
    let t : ltb e 11 ≡ true = lt-ltb e 11 (omega (arith, r.0)) in
    let q : 0x17 + e ≡ b = omega (arith, r.1) in
    (omega (arith, r.0), rw t refl, rw (t, q) (xs, refl))

-- the byte of an exponent as it stands: complemented in a negative decimal
abbrev pub far_as : Sign → ℕ → ℕ
far_as Negative v = flip v
far_as Positive v = v

abbrev pub small_as : Sign → ℕ → ℕ
small_as s v = far_as (other_sign s) v

pub byte_none : (s : Sign) (least : ℕ) (xs ys : List ℕ) → Through s xs ys → ((v : ℕ) (vs : List ℕ) → ys ≡ v ∷ vs → least ≤ v → v ≤ 240 → ⊥) →
    (v : ℕ) (vs : List ℕ) → xs ≡ far_as s v ∷ vs → least ≤ v → v ≤ 240 → ⊥
byte_none Positive least xs ys t none v vs e l h = none v vs (t ∙ e) l h
byte_none Negative least xs ys t none v vs e l h =
    let q : flip (flip v) ≡ v = omega arith in none v (flipped vs) (t.1 ∙ ap flipped e ∙ ap (λ z. z ∷ flipped vs) q) l h

pub byte_some : (s : Sign) (xs ys : List ℕ) (v : ℕ) (vs : List ℕ) → Through s xs ys → ys ≡ v ∷ vs → (ws : List ℕ) × (xs ≡ far_as s v ∷ ws)
byte_some Positive xs ys v vs t e = (vs, sym t ∙ e)
byte_some Negative xs ys v vs t e = (flipped vs, t.0 ∙ ap flipped e)

pub far_starts : (s : Sign) (v : ℕ) (xs vs : List ℕ) → 11 ≤ v → v ≤ 240 → xs ≡ far_as s v ∷ vs → Starts InRange head_bytes (far_byte s ∷ xs) (s, pos v) 2
far_starts Negative v xs vs l h e =
    let t : ltb v 11 ≡ false = le-ltb v 11 l in (h, rw t refl, rw (t, e) (vs, refl))
far_starts Positive v xs vs l h e =
    let t : ltb v 11 ≡ false = le-ltb v 11 l in (h, rw t refl, rw (t, e) (vs, refl))

pub small_starts : (s : Sign) (k : ℕ) (xs vs : List ℕ) → k + 1 ≤ 240 → xs ≡ small_as s (k + 1) ∷ vs → Starts InRange head_bytes (small_byte s ∷ xs) (s, negsuc k) 2
small_starts Negative k xs vs h e = (omega arith, refl, rw e (vs, refl))
small_starts Positive k xs vs h e = (omega arith, refl, rw e (vs, refl))

far_some : (s : Sign) → Begun InRange head_bytes (far_byte s ∷ [])
far_some Negative = ((Negative, pos 11), (omega arith, (flip 11 ∷ [], refl)))
far_some Positive = ((Positive, pos 11), (omega arith, (11 ∷ [], refl)))

small_some : (s : Sign) → Begun InRange head_bytes (small_byte s ∷ [])
small_some Negative = ((Negative, negsuc 0), (omega arith, (1 ∷ [], refl)))
small_some Positive = ((Positive, negsuc 0), (omega arith, (flip 1 ∷ [], refl)))

pub far_stops : (s : Sign) (xs : List ℕ) → ((v : ℕ) (vs : List ℕ) → xs ≡ far_as s v ∷ vs → 11 ≤ v → v ≤ 240 → ⊥) → Stops InRange head_bytes (far_byte s ∷ xs) 1
far_stops s xs bad = head_wide (far_byte s) xs (far_some s) (λ q r ys h. at s q.0 q.1 r ys (led q.0 q.1 (far_byte s) ys h) bad)
  where
    at : (s t : Sign) (e : ℤ) → Range e → (ys : List ℕ) → Led t e (far_byte s) ys → ((v : ℕ) (vs : List ℕ) → xs ≡ far_as s v ∷ vs → 11 ≤ v → v ≤ 240 → ⊥) →
        (y : ℕ) × (ys ≡ y ∷ []) × ((vs : List ℕ) → xs ≡ y ∷ vs → ⊥)
    at Negative Negative (pos n) r ys (inl l) bad = absurd (omega (arith, l.0, l.1))
    at Negative Negative (pos n) r ys (inr l) bad = (flip n, l.2, λ vs e. bad n vs e l.0 r)
    at Negative Negative (negsuc k) r ys l bad = absurd (omega (arith, l.0))
    at Negative Positive (pos n) r ys (inl l) bad = absurd (omega (arith, l.1))
    at Negative Positive (pos n) r ys (inr l) bad = absurd (omega (arith, l.1))
    at Negative Positive (negsuc k) r ys l bad = absurd (omega (arith, l.0))
    at Positive Negative (pos n) r ys (inl l) bad = absurd (omega (arith, l.0, l.1))
    at Positive Negative (pos n) r ys (inr l) bad = absurd (omega (arith, l.1))
    at Positive Negative (negsuc k) r ys l bad = absurd (omega (arith, l.0))
    at Positive Positive (pos n) r ys (inl l) bad = absurd (omega (arith, l.0, l.1))
    at Positive Positive (pos n) r ys (inr l) bad = (n, l.2, λ vs e. bad n vs e l.0 r)
    at Positive Positive (negsuc k) r ys l bad = absurd (omega (arith, l.0))

pub small_stops : (s : Sign) (xs : List ℕ) → ((v : ℕ) (vs : List ℕ) → xs ≡ small_as s v ∷ vs → 1 ≤ v → v ≤ 240 → ⊥) → Stops InRange head_bytes (small_byte s ∷ xs) 1
small_stops s xs bad = head_wide (small_byte s) xs (small_some s) (λ q r ys h. at s q.0 q.1 r ys (led q.0 q.1 (small_byte s) ys h) bad)
  where
    at : (s t : Sign) (e : ℤ) → Range e → (ys : List ℕ) → Led t e (small_byte s) ys → ((v : ℕ) (vs : List ℕ) → xs ≡ small_as s v ∷ vs → 1 ≤ v → v ≤ 240 → ⊥) →
        (y : ℕ) × (ys ≡ y ∷ []) × ((vs : List ℕ) → xs ≡ y ∷ vs → ⊥)
    at Negative Negative (negsuc k) r ys l bad = let m : k ≤ 239 = omega arith in (k + 1, l.1, λ vs e. bad (k + 1) vs e (omega arith) (omega arith))
    at Negative Negative (pos n) r ys (inl l) bad = absurd (omega (arith, l.0, l.1))
    at Negative Negative (pos n) r ys (inr l) bad = absurd (omega (arith, l.1))
    at Negative Positive (pos n) r ys (inl l) bad = absurd (omega (arith, l.1))
    at Negative Positive (pos n) r ys (inr l) bad = absurd (omega (arith, l.1))
    at Negative Positive (negsuc k) r ys l bad = absurd (omega (arith, l.0))
    at Positive Negative (pos n) r ys (inl l) bad = absurd (omega (arith, l.0, l.1))
    at Positive Negative (pos n) r ys (inr l) bad = absurd (omega (arith, l.1))
    at Positive Negative (negsuc k) r ys l bad = absurd (omega (arith, l.0))
    at Positive Positive (pos n) r ys (inl l) bad = absurd (omega (arith, l.0, l.1))
    at Positive Positive (pos n) r ys (inr l) bad = absurd (omega (arith, l.1))
    at Positive Positive (negsuc k) r ys l bad = let m : k ≤ 239 = omega arith in (flip (k + 1), l.1, λ vs e. bad (k + 1) vs e (omega arith) (omega arith))

-- the first bytes of heads
pub head_first : (q : Sign × ℤ) (x : ℕ) (ys : List ℕ) → head_bytes q ≡ x ∷ ys → (8 ≤ x) × (x ≤ 0x22) × (x ≡ 0x15 → ⊥)
head_first (Negative, pos n) x ys h = at (led Negative (pos n) x ys h)
  where
    at : Led Negative (pos n) x ys → (8 ≤ x) × (x ≤ 0x22) × (x ≡ 0x15 → ⊥)
    at (inl l) = (omega (arith, l.0, l.1), omega (arith, l.1), λ z. omega (arith, l.0, l.1))
    at (inr l) = (omega (arith, l.1), omega (arith, l.1), λ z. omega (arith, l.1))
head_first (Negative, negsuc k) x ys h = let l = led Negative (negsuc k) x ys h in (omega (arith, l.0), omega (arith, l.0), λ z. omega (arith, l.0))
head_first (Positive, negsuc k) x ys h = let l = led Positive (negsuc k) x ys h in (omega (arith, l.0), omega (arith, l.0), λ z. omega (arith, l.0))
head_first (Positive, pos n) x ys h = at (led Positive (pos n) x ys h)
  where
    at : Led Positive (pos n) x ys → (8 ≤ x) × (x ≤ 0x22) × (x ≡ 0x15 → ⊥)
    at (inl l) = (omega (arith, l.1), omega (arith, l.0, l.1), λ z. omega (arith, l.1))
    at (inr l) = (omega (arith, l.1), omega (arith, l.1), λ z. omega (arith, l.1))

pub byte_of_far : (s : Sign) (b : ℕ) → Rule b (Far s) → b ≡ far_byte s
byte_of_far Negative b r = r
byte_of_far Positive b r = r

pub byte_of_small : (s : Sign) (b : ℕ) → Rule b (Small s) → b ≡ small_byte s
byte_of_small Negative b r = r
byte_of_small Positive b r = r

-- bytes of the other classes begin no head
pub other_head : (k : Class) (b : ℕ) (xs : List ℕ) → Rule b k → ((s : Sign) (e : ℕ) → k ≡ Near s e → ⊥) → ((s : Sign) → k ≡ Far s → ⊥) → ((s : Sign) → k ≡ Small s → ⊥) →
    Stops InRange head_bytes (b ∷ xs) 0
other_head (Near s e) b xs r n f m = absurd (n s e refl)
other_head (Far s) b xs r n f m = absurd (f s refl)
other_head (Small s) b xs r n f m = absurd (m s refl)
other_head Null b xs r n f m = head_never b xs (λ q c ys h. let l = head_first q b ys h in omega (arith, l.0))
other_head Text b xs r n f m = head_never b xs (λ q c ys h. let l = head_first q b ys h in omega (arith, l.1))
other_head Zero b xs r n f m = head_never b xs (λ q c ys h. (head_first q b ys h).2 r)
other_head Foreign b xs (inl r) n f m = head_never b xs (λ q c ys h. let l = head_first q b ys h in omega (arith, l.0, r.0))
other_head Foreign b xs (inr (inl r)) n f m = head_never b xs (λ q c ys h. let l = head_first q b ys h in omega (arith, l.1))
other_head Foreign b xs (inr (inr r)) n f m = head_never b xs (λ q c ys h. let l = head_first q b ys h in omega (arith, l.1))

-- the exponent v, and the exponent −v, as the machine has them
pub widened : (z : ℤ) (v : ℕ) → z ≡ pos v → v < 256 → to_z w32 (of_z w32 z) ≡ pos v
widened z v e h =
    let f : SFits w32 (pos v) = search (rules, ints) in
    rw e (to_z-of_z w32 (pos v) f)

pub negated : (z : ℤ) (v : ℕ) → z ≡ pos v → 1 ≤ v → v ≤ 240 → to_z w32 (of_z w32 (pos 0 -ℤ to_z w32 (of_z w32 z))) ≡ negsuc (v - 1)
negated z v e l h =
    let q : pos 0 -ℤ pos v ≡ negsuc (v - 1) = omega (arith, ints) in
    let f : SFits w32 (negsuc (v - 1)) = search (rules, ints) in
    rw (widened z v e (omega arith), q) (to_z-of_z w32 (negsuc (v - 1)) f)
