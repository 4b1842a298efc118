-- The separator of two strings.
use Rattle.std.proofs.Common.{◌≡◌, ℕ, ◌+◌, ◌<◌, List, [], ◌∷◌, length, take, drop, slice_index, refl, sym, subst, inl, inr, arith, zero, suc}
use Rattle.std.proofs.lemmas.List.{take-append-drop, length-take-le}
use Rattle.codes.specs.Strings.{Less, Begins}
use Rattle.separators.specs.Separators.{HaveInCommon, UpTo, IsSeparator, Separates}
use Rattle.separators.proofs.Fronts.{rest_in_common}

less_trans : (a b c : List ℕ) → Less a b → Less b c → Less a c
less_trans [] [] c h g = absurd h
less_trans [] (y ∷ ys) [] h g = absurd g
less_trans [] (y ∷ ys) (z ∷ zs) h g = tt
less_trans (x ∷ xs) [] c h g = absurd h
less_trans (x ∷ xs) (y ∷ ys) [] h g = absurd g
less_trans (x ∷ xs) (y ∷ ys) (z ∷ zs) (inl h) (inl g) = inl (omega arith)
less_trans (x ∷ xs) (y ∷ ys) (z ∷ zs) (inl h) (inr g) = inl (omega arith)
less_trans (x ∷ xs) (y ∷ ys) (z ∷ zs) (inr h) (inl g) = inl (omega arith)
less_trans (x ∷ xs) (y ∷ ys) (z ∷ zs) (inr h) (inr g) = inr (omega arith, less_trans xs ys zs h.1 g.1)

-- a beginning is the whole, or stands before it
begins_up_to : (s b : List ℕ) → Begins s b → UpTo s b
begins_up_to [] [] h = inl refl
begins_up_to [] (y ∷ ys) h = inr tt
begins_up_to (x ∷ xs) [] h = let e = h.1 in inl cc
begins_up_to (x ∷ xs) (y ∷ ys) h =
    let e = h.1 in
    let p : x ≡ y = cc in
    elim (begins_up_to xs ys (h.0, cc)) [ inl q ↦ inl cc | inr l ↦ inr (inr (p, l)) ]

up_to_trans : (a b c : List ℕ) → UpTo a b → UpTo b c → UpTo a c
up_to_trans a b c (inl h) g = subst (λ (z : List ℕ). UpTo z c) (sym h) g
up_to_trans a b c (inr h) (inl g) = inr (subst (λ (z : List ℕ). Less a z) g h)
up_to_trans a b c (inr h) (inr g) = inr (less_trans a b c h g)

-- a separator stands between the strings
pub separator_separates : (a b s : List ℕ) → IsSeparator a b s → Separates a b s
separator_separates a b s h = record {
  left = λ k u. elim u [ inl e ↦ subst (λ (z : List ℕ). Less z s) (sym e) h.above | inr l ↦ less_trans k a s l h.above ];
  right = λ k u. up_to_trans s b k (begins_up_to s b h.begins) u;
}

-- the right one goes on behind what they have in common
pub goes_on : (a b : List ℕ) (n : ℕ) → HaveInCommon a b n → Less a b → n < length b
goes_on [] [] n h l = absurd l
goes_on [] (y ∷ ys) n h l = omega (arith, h.in_left)
goes_on (x ∷ xs) [] n h l = absurd l
goes_on (x ∷ xs) (y ∷ ys) zero h l = omega arith
goes_on (x ∷ xs) (y ∷ ys) (suc n) h (inl l) = let p = (rest_in_common x y xs ys n h).0 in omega arith
goes_on (x ∷ xs) (y ∷ ys) (suc n) h (inr l) = let m = goes_on xs ys n (rest_in_common x y xs ys n h).1 l.1 in omega arith

above : (a b : List ℕ) (n : ℕ) → HaveInCommon a b n → Less a b → Less a (take (suc n) b)
above [] [] n h l = absurd l
above [] (y ∷ ys) n h l = tt
above (x ∷ xs) [] n h l = absurd l
above (x ∷ xs) (y ∷ ys) zero h (inl l) = inl l
above (x ∷ xs) (y ∷ ys) zero h (inr l) = absurd (h.differ (omega arith) (omega arith) l.0)
above (x ∷ xs) (y ∷ ys) (suc n) h (inl l) = inl l
above (x ∷ xs) (y ∷ ys) (suc n) h (inr l) = inr (l.0, above xs ys n (rest_in_common x y xs ys n h).1 l.1)

long_enough : (a b t : List ℕ) (n : ℕ) → HaveInCommon a b n → Begins t b → Less a t → n < length t
long_enough [] b [] n h g l = absurd l
long_enough (x ∷ xs) b [] n h g l = absurd l
long_enough [] b (z ∷ zs) n h g l = omega (arith, h.in_left)
long_enough (x ∷ xs) [] (z ∷ zs) n h g l = omega (arith, h.in_right)
long_enough (x ∷ xs) (y ∷ ys) (z ∷ zs) zero h g l = omega arith
long_enough (x ∷ xs) (y ∷ ys) (z ∷ zs) (suc n) h g (inl l) =
    let e = g.1 in
    let q : z ≡ y = cc in
    let p = (rest_in_common x y xs ys n h).0 in omega arith
long_enough (x ∷ xs) (y ∷ ys) (z ∷ zs) (suc n) h g (inr l) =
    let e = g.1 in
    let m = long_enough xs ys zs n (rest_in_common x y xs ys n h).1 (g.0, cc) l.1 in omega arith

-- one byte more than they have in common separates two strings that rise
pub cut : (a b : List ℕ) (n : ℕ) → HaveInCommon a b n → Less a b → IsSeparator a b (take (n + 1) b)
cut a b n h l =
    let e : n + 1 ≡ suc n = omega arith in
    let q = length-take-le (suc n) b (goes_on a b n h l) in
    rw e record {
      begins = (drop (suc n) b, take-append-drop (suc n) b);
      above = above a b n h l;
      shortest = λ t g k. let m = long_enough a b t n h g k in omega (arith, q, m);
    }

-- behind what they have in common the left one ends, or has the smaller byte
pub rises : (a b : List ℕ) (n : ℕ) → HaveInCommon a b n → n < length b → (n < length a → slice_index a n < slice_index b n) → Less a b
rises a [] n h g r = absurd (omega (arith, g))
rises [] (y ∷ ys) n h g r = tt
rises (x ∷ xs) (y ∷ ys) zero h g r = inl (r (omega arith))
rises (x ∷ xs) (y ∷ ys) (suc n) h g r =
    let f = rest_in_common x y xs ys n h in inr (f.0, rises xs ys n f.1 (omega (arith, g)) (λ p. r (omega arith)))

-- or else the right one stands up to it
pub falls : (a b : List ℕ) (n : ℕ) → HaveInCommon a b n → (n < length b → (n < length a) × (slice_index b n < slice_index a n)) → UpTo b a
falls [] [] n h r = inl refl
falls [] (y ∷ ys) n h r = let m = h.in_left in absurd (let q = (r (omega arith)).0 in omega arith)
falls (x ∷ xs) [] n h r = inr tt
falls (x ∷ xs) (y ∷ ys) zero h r = inr (inl (r (omega arith)).1)
falls (x ∷ xs) (y ∷ ys) (suc n) h r =
    let g = rest_in_common x y xs ys n h in
    elim (falls xs ys n g.1 (λ p. let q = r (omega arith) in (omega (arith, q.0), q.1))) [
      | inl e ↦ inl (let p = g.0 in cc)
      | inr l ↦ inr (inr (sym (g.0), l))
    ]
