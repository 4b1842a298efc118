-- Keys that rise.
use Rattle.std.proofs.Common.{suc, ◌≡◌, ℕ, ◌<◌, ◌≤◌, List, [], ◌∷◌, ◌++◌, length, take, get_or, sym, refl, ap, subst, ◌∙◌, inl, inr, arith, length-append, All, Ordering, Less as Lower, Equal, Greater}
use Rattle.std.proofs.lemmas.List.{take_at, drop_at, get_or_append_left, get_or_at, get_or-take}
use Rattle.std.proofs.lemmas.List.Elements.{All-nil, All-cons, All-head, All-tail, All-push, All-append, All-take, All-drop, All-same, All-weaker, All-get_or, All-from_get_or}
use Rattle.std.proofs.lemmas.List.Kept.{AllPairs-cons}
use Rattle.std.proofs.lemmas.List.Quantifiers.{all_pairs_push}
use Rattle.std.specs.Ordering.{MatchOrdering}
use Rattle.codes.specs.Strings.{Less}
use Rattle.codes.specs.Orders.{less_irrefl, less_asym}
use Rattle.layout.specs.Leaf.{Rising, Sized}
use Rattle.layout.specs.Checks.{Ends}
use Rattle.layout.proofs.Finds.{less_trans}

pub rising_push : (ks : List (List ℕ)) (k : List ℕ) → Rising ks → All (λ x. Less x k) ks → Rising (ks ++ k ∷ [])
rising_push ks k r a = all_pairs_push Less ks k r (λ i d l. All-get_or (λ x. Less x k) ks i d l a)

-- of rising keys each is below what is above the last
pub ends_below : (ks : List (List ℕ)) (last k : List ℕ) → Rising ks → Ends ks last → Less last k → All (λ x. Less x k) ks
ends_below ks last k r (inl e) l = All-same (λ x. Less x k) ks [] e.0 (All-nil (λ x. Less x k))
ends_below ks last k r (inr e) l = All-same (λ x. Less x k) ks (e.0 ++ last ∷ []) e.1 (All-push (λ x. Less x k) e.0 last (All-from_get_or (λ x. Less x k) e.0 [] each) l)
  where
    each : (i : ℕ) → i < length e.0 → Less (get_or e.0 i []) k
    each i h =
        let long = ap length e.1 ∙ length-append e.0 (last ∷ []) in
        let a : get_or ks i [] ≡ get_or e.0 i [] = ap (λ (x : List (List ℕ)). get_or x i []) e.1 ∙ get_or_append_left e.0 (last ∷ []) [] i h in
        let b : get_or ks (length e.0) [] ≡ last = ap (λ (x : List (List ℕ)). get_or x (length e.0) []) e.1 ∙ get_or_at e.0 last [] [] (length e.0) refl in
        let s : Less (get_or ks i []) (get_or ks (length e.0) []) = r i (length e.0) [] h (omega arith) in
        less_trans (get_or e.0 i []) last k (subst (λ (x : List ℕ). Less (get_or e.0 i []) x) b (subst (λ (x : List ℕ). Less x (get_or ks (length e.0) [])) a s)) l

first_less : (k : List ℕ) → 1 ≤ length k → Less [] k
first_less [] h = absurd (omega arith)
first_less (x ∷ k) h = tt

-- in rising keys the last one before a key is below it
pub ends_rising : (keys js : List (List ℕ)) (last : List ℕ) → Rising keys → All Sized keys → js ≡ take (length js) keys → length js < length keys → Ends js last → Less last (get_or keys (length js) [])
ends_rising keys js last r s t h (inl e) =
    let k = get_or keys (length js) [] in
    subst (λ (x : List ℕ). Less x k) (sym e.1) (first_less k (All-get_or Sized keys (length js) [] h s).0)
ends_rising keys js last r s t h (inr e) =
    let n = length e.0 in
    let long = ap length e.1 ∙ length-append e.0 (last ∷ []) in
    let lt : n < length js = omega arith in
    let a : get_or keys n [] ≡ last =
    sym (get_or-take (length js) keys n [] lt) ∙ ap (λ (x : List (List ℕ)). get_or x n []) (sym t ∙ e.1) ∙ get_or_at e.0 last [] [] n refl in
    subst (λ (x : List ℕ). Less x (get_or keys (length js) [])) a (r n (length js) [] lt h)

-- two keys of which the first is not found to be below
pub not_below : (a b : List ℕ) (o : Ordering) → MatchOrdering o (Less a b) (a ≡ b) (Less b a) → (o ≡ Lower → ⊥) → Less a b → ⊥
not_below a b Lower m n l = n refl
not_below a b Equal m n l = less_irrefl b (subst (λ (x : List ℕ). Less x b) m l)
not_below a b Greater m n l = less_asym a b l m

-- the first of rising keys is below the others, and those rise
first_rising : (k : List ℕ) (ks : List (List ℕ)) → Rising (k ∷ ks) → All (Less k) ks × Rising ks
first_rising k ks r = (All-from_get_or (Less k) ks [] (λ i l. r 0 (suc i) [] (omega arith) (omega arith)), λ i j d h l. r (suc i) (suc j) d (omega arith) (omega arith))

-- a key between those below it and those above it
pub rising_inserted : (a b : List (List ℕ)) (key : List ℕ) → Rising (a ++ b) → All (λ x. Less x key) a → All (Less key) b → Rising (a ++ key ∷ b)
rising_inserted [] b key r low up = AllPairs-cons Less key b up r
rising_inserted (k ∷ a) b key r low up =
    let f = first_rising k (a ++ b) r in
    let l = All-head (λ x. Less x key) k a low in
    let behind = All-cons (Less k) key b l (All-weaker (Less key) (Less k) (λ x g. less_trans k key x l g) b up) in
    let before = subst (λ (z : List (List ℕ)). All (Less k) z) (take_at a b (length a) refl) (All-take (Less k) (length a) (a ++ b) f.0) in
    AllPairs-cons Less k (a ++ key ∷ b) (All-append (Less k) a (key ∷ b) before behind) (rising_inserted a b key f.1 (All-tail (λ x. Less x key) k a low) up)

-- the keys without one of them
pub rising_removed : (a b : List (List ℕ)) (key : List ℕ) → Rising (a ++ key ∷ b) → Rising (a ++ b)
rising_removed [] b key r = (first_rising key b r).1
rising_removed (k ∷ a) b key r =
    let f = first_rising k (a ++ key ∷ b) r in
    let before = subst (λ (z : List (List ℕ)). All (Less k) z) (take_at a (key ∷ b) (length a) refl) (All-take (Less k) (length a) (a ++ key ∷ b) f.0) in
    let behind = subst (λ (z : List (List ℕ)). All (Less k) z) (drop_at a (key ∷ b) (length a) refl) (All-drop (Less k) (length a) (a ++ key ∷ b) f.0) in
    AllPairs-cons Less k (a ++ b) (All-append (Less k) a b before (All-tail (Less k) key b behind)) (rising_removed a b key f.1)
