-- Reading codes from the front of bytes: one code after another, complemented codes, codes told apart by their first byte.
use Rattle.std.proofs.Common.{◌≡◌, ℕ, zero, suc, ◌+◌, ◌<◌, ◌≤◌, ◌⊎◌, List, [], ◌∷◌, ◌++◌, length, take, drop, sym, refl, ap, ◌∙◌, subst, inl, inr, append_assoc, arith, length-append, length-drop, Err}
use Rattle.std.proofs.lemmas.List.{drop_at, take-append-drop, append_cancel_left, take-map, length-map}
use Rattle.codes.specs.Strings.{Begins, Bytes, flip, flipped}
use Rattle.codes.specs.Reading.{Starts, Stops, Read}
use Rattle.codes.specs.declared.unread.Unread.{Unread}
use Rattle.codes.specs.declared.unread.Unread.TheVariants.{NoCode, NoRoom}
use Rattle.codes.specs.Orders.{flipped_twice, flipped_append}

-- beginnings
pub begins_length : (a b : List ℕ) → Begins a b → length a ≤ length b
begins_length a b h = omega (arith, ap length h.1, length-append a h.0)

pub begins_take : (p : ℕ) (b : List ℕ) → Begins (take p b) b
begins_take p b = (drop p b, take-append-drop p b)

pub begins_trans : (a b c : List ℕ) → Begins a b → Begins b c → Begins a c
begins_trans a b c h k = (h.0 ++ k.0, sym (append_assoc a h.0 k.0) ∙ ap (λ z. z ++ k.0) h.1 ∙ k.1)

pub begins_more : (a b c : List ℕ) → Begins a b → Begins a (b ++ c)
begins_more a b c h = begins_trans a b (b ++ c) h (c, refl)

pub begins_cons : (x y : ℕ) (xs ys : List ℕ) → Begins (x ∷ xs) (y ∷ ys) → (x ≡ y) × Begins xs ys
begins_cons x y xs ys h = let e = h.1 in (cc, (h.0, cc))

pub cons_begins : (x y : ℕ) (xs ys : List ℕ) → x ≡ y → Begins xs ys → Begins (x ∷ xs) (y ∷ ys)
cons_begins x y xs ys e h = (h.0, let f = h.1 in cc)

-- of two beginnings of one string, one begins the other
pub begins_cases : (x u v : List ℕ) → Begins x (u ++ v) → Begins x u ⊎ Begins u x
begins_cases [] u v h = inl (u, refl)
begins_cases (x ∷ xs) [] v h = inr (x ∷ xs, refl)
begins_cases (x ∷ xs) (y ∷ ys) v h =
    let r = begins_cons x y xs (ys ++ v) h in
    elim (begins_cases xs ys v r.1) [
      | inl q ↦ inl (cons_begins x y xs ys r.0 q)
      | inr q ↦ inr (cons_begins y x ys xs (sym r.0) q)
    ]

pub begins_both : (u w b : List ℕ) → Begins u b → Begins w b → Begins u w ⊎ Begins w u
begins_both u w b h k = begins_cases u w k.0 (subst (λ (z : List ℕ). Begins u z) (sym k.1) h)

pub begins_rest : (u v b : List ℕ) (n : ℕ) → n ≡ length u → Begins (u ++ v) b → Begins v (drop n b)
begins_rest u v b n e h =
    (h.0, sym (ap (drop n) (sym h.1 ∙ append_assoc u v h.0) ∙ drop_at u (v ++ h.0) n (sym e)))

pub begins_after : (u v w : List ℕ) → Begins v w → Begins (u ++ v) (u ++ w)
begins_after u v w h = (h.0, append_assoc u v h.0 ∙ ap (λ z. u ++ z) h.1)

pub begins_cancel : (u v w : List ℕ) → Begins (u ++ v) (u ++ w) → Begins v w
begins_cancel u v w h = (h.0, append_cancel_left u (v ++ h.0) w (sym (append_assoc u v h.0) ∙ h.1))

-- a string is its beginning and the rest
pub begins_split : (u b : List ℕ) (n : ℕ) → n ≡ length u → Begins u b → b ≡ u ++ drop n b
begins_split u b n e h = sym h.1 ∙ ap (λ z. u ++ z) (sym (ap (drop n) (sym h.1) ∙ drop_at u h.0 n (sym e)))

pub take_behind : (u r : List ℕ) (n p : ℕ) → n ≡ length u → take (n + p) (u ++ r) ≡ u ++ take p r
take_behind [] r n p e = let q : n + p ≡ p = omega arith in rw q refl
take_behind (x ∷ u) r zero p e = absurd (omega arith)
take_behind (x ∷ u) r (suc n) p e =
    let q : suc n + p ≡ suc (n + p) = omega arith in rw q (ap (λ z. x ∷ z) (take_behind u r n p (omega arith)))

-- a code, and then another that may depend on it
module _ {A M : Type 0} (CA : A → Type 0) (ba : A → List ℕ) (CB : A → M → Type 0) (bb : A → M → List ℕ)
    (free : (a c : A) → CA a → CA c → Begins (ba a) (ba c) → a ≡ c) where
  abbrev pub Joint : A × M → Type 0
  Joint q = CA q.0 × CB q.0 q.1

  abbrev pub joint : A × M → List ℕ
  joint q = ba q.0 ++ bb q.0 q.1

  pub seq_starts : (b : List ℕ) (a : A) (m : M) (n k : ℕ) → Starts CA ba b a n → Starts (CB a) (bb a) (drop n b) m k → Starts Joint joint b (a, m) (n + k)
  seq_starts b a m n k s t = (
    (s.0, t.0),
    omega (arith, s.1, t.1, length-append (ba a) (bb a m)),
    subst (λ (z : List ℕ). Begins (ba a ++ bb a m) z) (sym (begins_split (ba a) b n s.1 s.2)) (begins_after (ba a) (bb a m) (drop n b) t.2),
  )

  -- the first code stops
  pub seq_first : (b : List ℕ) (p : ℕ) → ((a : A) → CA a → (m : M) × CB a m) → Stops CA ba b p → Stops Joint joint b p
  seq_first b p some s = (
    λ q c h. s.0 q.0 c.0 (begins_trans (ba q.0) (joint q) b (bb q.0 q.1, refl) h),
    s.1,
    let w = s.2 in let m = some w.0 w.1.0 in
        ((w.0, m.0), ((w.1.0, m.1), begins_more (take p b) (ba w.0) (bb w.0 m.0) w.1.1)),
    λ l w. elim (begins_cases (take (p + 1) b) (ba w.0.0) (bb w.0.0 w.0.1) w.1.1) [
      | inl h ↦ s.3 l (w.0.0, (w.1.0.0, h))
      | inr h ↦ s.0 w.0.0 w.1.0.0 (begins_trans (ba w.0.0) (take (p + 1) b) b h (begins_take (p + 1) b))
    ],
  )

  same_first : (a c : A) → CA a → CA c → Begins (ba a) (ba c) ⊎ Begins (ba c) (ba a) → a ≡ c
  same_first a c u v (inl h) = free a c u v h
  same_first a c u v (inr h) = sym (free c a v u h)

  -- the first code is read, and the second stops
  pub seq_second : (b : List ℕ) (a : A) (n p : ℕ) → Starts CA ba b a n → Stops (CB a) (bb a) (drop n b) p → Stops Joint joint b (n + p)
  seq_second b a n p s t =
      let split = begins_split (ba a) b n s.1 s.2 in
      let front : (k : ℕ) → take (n + k) b ≡ ba a ++ take k (drop n b) = λ k. ap (take (n + k)) split ∙ take_behind (ba a) (drop n b) n k s.1 in (
        λ q c h.
            let e = same_first a q.0 s.0 c.0 (begins_both (ba a) (ba q.0) b s.2 (begins_trans (ba q.0) (joint q) b (bb q.0 q.1, refl) h)) in
            none q (sym e) c.1 (begins_rest (ba q.0) (bb q.0 q.1) b n (s.1 ∙ ap (λ z. length (ba z)) e) h),
        omega (arith, t.1, length-drop n b, ap length split, length-append (ba a) (drop n b), s.1),
        let w = t.2 in (
          (a, w.0),
          (
            (s.0, w.1.0),
            subst (λ (z : List ℕ). Begins z (ba a ++ bb a w.0)) (sym (front p)) (begins_after (ba a) (take p (drop n b)) (bb a w.0) w.1.1),
          ),
        ),
        λ l w.
            let q : n + p + 1 ≡ n + (p + 1) = omega arith in
            let h = subst (λ (z : List ℕ). Begins z (joint w.0)) (front (p + 1)) (subst (λ (z : ℕ). Begins (take z b) (joint w.0)) q w.1.1) in
            let e = same_first a w.0.0 s.0 w.1.0.0 (begins_cases (ba a) (ba w.0.0) (bb w.0.0 w.0.1) (begins_trans (ba a) (ba a ++ take (p + 1) (drop n b)) (joint w.0) (take (p + 1) (drop n b), refl) h)) in
            more w.0 (sym e) w.1.0.1 (omega (arith, l, length-drop n b)) h,
      )
    where
      none : (q : A × M) → q.0 ≡ a → CB q.0 q.1 → Begins (bb q.0 q.1) (drop n b) → ⊥
      none (c, m) e u h = t.0 m (subst (λ (z : A). CB z m) e u) (subst (λ (z : A). Begins (bb z m) (drop n b)) e h)

      more : (q : A × M) → q.0 ≡ a → CB q.0 q.1 → p < length (drop n b) → Begins (ba a ++ take (p + 1) (drop n b)) (joint q) → ⊥
      more (c, m) e u l h =
          t.3 l (
            m,
            (
              subst (λ (z : A). CB z m) e u,
              begins_cancel (ba a) (take (p + 1) (drop n b)) (bb a m) (subst (λ (z : A). Begins (ba a ++ take (p + 1) (drop n b)) (ba z ++ bb z m)) e h),
            ),
          )

-- the complement of a code, read from complemented bytes
module _ {M : Type 0} (C : M → Type 0) (bytes : M → List ℕ) (within : (m : M) → C m → Bytes (bytes m)) where
  begins_flipped : (a b : List ℕ) → Begins a b → Begins (flipped a) (flipped b)
  begins_flipped a b h = (flipped h.0, sym (flipped_append a h.0) ∙ ap flipped h.1)

  pub flip_starts : (b c : List ℕ) (m : M) (n : ℕ) → c ≡ flipped b → Starts C bytes b m n → Starts C (λ z. flipped (bytes z)) c m n
  flip_starts b c m n e s =
      (s.0, s.1 ∙ sym (length-map (bytes m) flip), subst (λ (z : List ℕ). Begins (flipped (bytes m)) z) (sym e) (begins_flipped (bytes m) b s.2))

  back : (m : M) → C m → flipped (flipped (bytes m)) ≡ bytes m
  back m c = flipped_twice (bytes m) (within m c)

  pub flip_stops : (b c : List ℕ) (p : ℕ) → c ≡ flipped b → b ≡ flipped c → Stops C bytes b p → Stops C (λ z. flipped (bytes z)) c p
  flip_stops b c p e f s = (
    λ m u h. s.0 m u (subst (λ (z : List ℕ). Begins z b) (back m u) (subst (λ (z : List ℕ). Begins (flipped (flipped (bytes m))) z) (sym f) (begins_flipped (flipped (bytes m)) c h))),
    omega (arith, s.1, ap length e, length-map b flip),
    let w = s.2 in
        (w.0, (w.1.0, subst (λ (z : List ℕ). Begins z (flipped (bytes w.0))) (taken p b c e) (begins_flipped (take p b) (bytes w.0) w.1.1))),
    λ l w. s.3 (omega (arith, l, ap length e, length-map b flip)) (
      w.0,
      (
        w.1.0,
        subst (λ (z : List ℕ). Begins (take (p + 1) b) z) (back w.0 w.1.0)
            (subst (λ (z : List ℕ). Begins z (flipped (flipped (bytes w.0)))) (taken (p + 1) c b f) (begins_flipped (take (p + 1) c) (flipped (bytes w.0)) w.1.1)),
      ),
    ),
  )
    where
      taken : (k : ℕ) (x y : List ℕ) → y ≡ flipped x → flipped (take k x) ≡ take k y
      taken k x y q = sym (take-map flip k x) ∙ ap (take k) (sym q)

-- a code whose values are among those of another one, which the first byte of b tells apart
module _ {S T : Type 0} (CS : S → Type 0) (bs : S → List ℕ) (CT : T → Type 0) (bt : T → List ℕ) (into : S → T)
    (keeps : (m : S) → CS m → CT (into m) × (bt (into m) ≡ bs m)) where
  pub head_starts : (b : List ℕ) (m : S) (n : ℕ) → Starts CS bs b m n → Starts CT bt b (into m) n
  head_starts b m n s =
      let k = keeps m s.0 in (k.0, s.1 ∙ ap length (sym k.1), subst (λ (z : List ℕ). Begins z b) (sym k.1) s.2)

  pub head_stops : (x : ℕ) (xs : List ℕ) (p : ℕ) → ((t : T) → CT t → (y : ℕ) × (ys : List ℕ) × (bt t ≡ y ∷ ys)) →
      ((t : T) → CT t → (ys : List ℕ) → bt t ≡ x ∷ ys → (m : S) × (CS m × (bs m ≡ bt t))) → Stops CS bs (x ∷ xs) p → Stops CT bt (x ∷ xs) p
  head_stops x xs p full from s = (
    λ t c h. let f = full t c in
        let e : f.0 ≡ x = (begins_cons f.0 x f.1 xs (subst (λ (z : List ℕ). Begins z (x ∷ xs)) f.2 h)).0 in
        let m = from t c f.1 (f.2 ∙ ap (λ z. z ∷ f.1) e) in
        s.0 m.0 m.1.0 (subst (λ (z : List ℕ). Begins z (x ∷ xs)) (sym m.1.1) h),
    s.1,
    let w = s.2 in let k = keeps w.0 w.1.0 in
        (into w.0, (k.0, subst (λ (z : List ℕ). Begins (take p (x ∷ xs)) z) (sym k.1) w.1.1)),
    λ l w. let f = full w.0 w.1.0 in
        let q : p + 1 ≡ suc p = omega arith in
        let g = subst (λ (z : List ℕ). Begins (x ∷ take p xs) z) f.2 (subst (λ (z : ℕ). Begins (take z (x ∷ xs)) (bt w.0)) q w.1.1) in
        let e : x ≡ f.0 = (begins_cons x f.0 (take p xs) f.1 g).0 in
        let m = from w.0 w.1.0 f.1 (f.2 ∙ ap (λ z. z ∷ f.1) (sym e)) in
        s.3 l (m.0, (m.1.0, subst (λ (z : List ℕ). Begins (take (p + 1) (x ∷ xs)) z) (sym m.1.1) w.1.1)),
  )

-- what was not read as the complement was not read as it stands
pub flip_unread : {V W M : Type 0} (Coded : M → Type 0) (bytes : M → List ℕ) (within : (m : M) → Coded m → Bytes (bytes m)) (means : V → List ℕ → M) (also : W → List ℕ → M) (spelled : M → List ℕ)
    (ys xs before after : List ℕ) → xs ≡ flipped ys → ys ≡ flipped xs → (why : Unread) →
    Read Coded bytes means spelled ys before after (Err why) → Read Coded (λ m. flipped (bytes m)) also spelled xs before after (Err why)
flip_unread Coded bytes within means also spelled ys xs before after back turn (NoCode p) h = (flip_stops Coded bytes within ys xs p.at back turn h.0, h.1)
flip_unread Coded bytes within means also spelled ys xs before after back turn NoRoom h =
    let w = h.0 in ((w.0, w.1, (flip_starts Coded bytes within ys xs w.0 w.1 back w.2.0, w.2.1)), h.1)
