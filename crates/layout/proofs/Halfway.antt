-- A leaf with one more key, gone over up to half of its bytes.
use Rattle.std.proofs.Common.{◌⊎◌, inl, inr, ◌≡◌, ℕ, ◌+◌, ◌-◌, ◌<◌, ◌≤◌, List, [], ◌∷◌, ◌++◌, length, take, drop, get_or, map, sum, suc, true, false, sym, refl, ap, subst, ◌∙◌, arith, length-append, drop-cons}
use Rattle.std.specs.List.{flat_map}
use Rattle.std.proofs.lemmas.Grind.{flat_map-append}
use Rattle.std.proofs.lemmas.List.{append-nil, get_or-map, get_or_append_left, get_or-append-add, take-append-le, take-append-drop, take_more, take_all, length-take-le, length-map}
use Rattle.std.proofs.lemmas.List.Sums.{sum_by-append}
use Rattle.std.proofs.Math.Seq.{take-append-add, get_or-append_seam}
use Rattle.separators.specs.declared.half.Half.{Half}
use Rattle.separators.specs.Halves.{Counted, Overfull}
use Rattle.layout.specs.declared.cut.Cut.{Cut}
use Rattle.layout.specs.declared.fault.PageFault.{PageFault}
use Rattle.layout.specs.declared.fault.PageFault.TheVariants.{Damaged, Full, KeyLength}
use Rattle.layout.specs.Faults.{Stops}
use Rattle.layout.specs.Pages.{zeros}
use Rattle.layout.specs.Leaf.{cell, cell_len, Leaf, Sized, CellAt}
use Rattle.layout.specs.Cuts.{Parted, stays, goes}
use Rattle.std.proofs.lemmas.List.Elements.{All-from_get_or, All-get_or, All-append, All-cons}
use Rattle.layout.proofs.Edits.{one_more}
use Rattle.layout.proofs.Leaves.{leaf_fits, sized_before, sized_behind}
use Rattle.layout.proofs.Turns.{Turn}

first : (x : ℕ) (xs : List ℕ) → sum (x ∷ xs) ≡ x + sum xs
first x xs = let e : sum (x ∷ []) ≡ x = omega arith in sum_by-append (λ y. y) (x ∷ []) xs ∙ ap (λ s. s + sum xs) e

sum_cells : (ks : List (List ℕ)) → sum (map cell_len ks) ≡ length (flat_map cell ks)
sum_cells [] = refl
sum_cells (k ∷ ks) = let h = sum_cells ks in omega (arith, first (cell_len k) (map cell_len ks), h, length-append (cell k) (flat_map cell ks))

module _ (a b : List (List ℕ)) (key : List ℕ) where
  -- all keys, the new one among them
  abbrev all : List (List ℕ)
  all = a ++ key ∷ b

  abbrev pub sizes : List ℕ
  sizes = map cell_len all

  pub sizes_sum : sum sizes ≡ length (flat_map cell (a ++ b)) + (1 + length key)
  sizes_sum = omega (arith, sum_cells all, one_more cell a b key)

  pub sizes_many : length sizes ≡ length (a ++ b) + 1
  sizes_many = omega (arith, length-map all cell_len, length-append a (key ∷ b), length-append a b)

  -- a list in parts, before an element and behind it
  parts : (i : ℕ) → i < length sizes → sizes ≡ take i sizes ++ get_or sizes i 0 ∷ drop (suc i) sizes
  parts i h = sym (take-append-drop i sizes) ∙ ap (λ s. take i sizes ++ s) (drop-cons sizes i 0 h)

  size_at : (i : ℕ) → i < length sizes → get_or sizes i 0 ≡ 1 + length (get_or all i [])
  size_at i h = get_or-map cell_len all i [] 0 (omega (arith, length-map all cell_len))

  pub size_new : (i : ℕ) → i ≡ length a → get_or sizes i 0 ≡ 1 + length key
  size_new i q =
      let h : i < length sizes = omega (arith, sizes_many, length-append a b) in
      size_at i h ∙ ap (λ (k : List ℕ). 1 + length k) (ap (λ n. get_or all n []) q ∙ get_or-append_seam a key b [])

  pub size_before : (i : ℕ) → i < length a → get_or sizes i 0 ≡ 1 + length (get_or (a ++ b) i [])
  size_before i l =
      let h : i < length sizes = omega (arith, sizes_many, length-append a b) in
      size_at i h ∙ ap (λ (k : List ℕ). 1 + length k) (get_or_append_left a (key ∷ b) [] i l ∙ sym (get_or_append_left a b [] i l))

  pub size_behind : (i j : ℕ) → length a < i → j + 1 ≡ i → i < length sizes → get_or sizes i 0 ≡ 1 + length (get_or (a ++ b) j [])
  size_behind i j l q h =
      let m = j - length a in
      let x : i ≡ length a + suc m = omega arith in
      let y : length a + m ≡ j = omega arith in
      size_at i h
      ∙ ap (λ (k : List ℕ). 1 + length k) (
      ap (λ n. get_or all n []) x ∙ get_or-append-add a (key ∷ b) (suc m) [] ∙ sym (get_or-append-add a b m []) ∙ ap (λ n. get_or (a ++ b) n []) y
      )

  -- where the loop is
  pub record Turned (page : List ℕ) (turn index at : ℕ) (half : Half) : Type 0 where
    pub counted : Counted sizes (take turn sizes) half
    pub here : drop at page ≡ flat_map cell (drop index (a ++ b)) ++ zeros (length page) (flat_map cell (a ++ b))
    pub at_is : at ≡ 4 + length (flat_map cell (take index (a ++ b)))
    pub before : turn ≤ length a → index ≡ turn
    pub behind : length a < turn → index + 1 ≡ turn

  -- a leaf that has no room for the new key is too full by no more than that
  pub overfull : (page : List ℕ) → Leaf page (a ++ b) → Sized key → 367 ≤ length page → length page < 4 + length (flat_map cell all) → Overfull (length page - 4) 121 sizes
  overfull page lf s big much =
      let each = All-append Sized a (key ∷ b) (sized_before a b lf.sized) (All-cons Sized key b s (sized_behind a b lf.sized)) in
      let total = sizes_sum in
      let one = one_more cell a b key in
      let room = leaf_fits page (a ++ b) lf in
      record {
        small = All-from_get_or (λ x. x ≤ 121) sizes 0 (λ i h. let k = All-get_or Sized all i [] (omega (arith, length-map all cell_len)) each in omega (arith, size_at i h, k.1));
        three = omega arith;
        over = omega (arith, total, one);
        by_one = omega (arith, total, room, s.1);
      }

  pub parted_at : (turn s : ℕ) → turn < length sizes → get_or sizes turn 0 ≡ s → sizes ≡ take turn sizes ++ s ∷ drop (suc turn) sizes
  parted_at turn s h q = parts turn h ∙ ap (λ x. take turn sizes ++ x ∷ drop (suc turn) sizes) q

  module _ (page : List ℕ) (turn index at : ℕ) (half : Half) (t : Turned page turn index at half) where
    pub own_few : (turn < length a) ⊎ (length a < turn) → turn < length sizes → index < length (a ++ b)
    own_few (inl l) h = omega (arith, t.before (omega arith), length-append a b)
    own_few (inr l) h = omega (arith, t.behind l, sizes_many)

    pub own_size : (turn < length a) ⊎ (length a < turn) → turn < length sizes → get_or sizes turn 0 ≡ 1 + length (get_or (a ++ b) index [])
    own_size (inl l) h = size_before turn l ∙ ap (λ n. 1 + length (get_or (a ++ b) n [])) (sym (t.before (omega arith)))
    own_size (inr l) h = size_behind turn index l (t.behind l) h

    counted_more : (s : ℕ) (h2 : Half) → turn < length sizes → get_or sizes turn 0 ≡ s → Counted sizes (take turn sizes ++ s ∷ []) h2 → Counted sizes (take (turn + 1) sizes) h2
    counted_more s h2 h q k = subst (λ (l : List ℕ). Counted sizes l h2) (sym (take_more sizes turn 0 h ∙ ap (λ x. take turn sizes ++ x ∷ []) q)) k

    -- the new key's turn is over
    pub next_new : (h2 : Half) → turn ≡ length a → Counted sizes (take turn sizes ++ (1 + length key) ∷ []) h2 → Turned page (turn + 1) index at h2
    next_new h2 q k = record {
      counted = counted_more (1 + length key) h2 (omega (arith, sizes_many, length-append a b)) (size_new turn q) k;
      here = t.here;
      at_is = t.at_is;
      before = λ l. absurd (omega arith);
      behind = λ l. omega (arith, t.before (omega arith));
    }

    module _ (n : ℕ) (z : List ℕ) (u : Turn page at (a ++ b) index z) (w : CellAt page at n) where
      at_next : index < length (a ++ b) → at + (1 + n) ≡ 4 + length (flat_map cell (take (index + 1) (a ++ b)))
      at_next h =
          let k = get_or (a ++ b) index [] in
          let q = ap (flat_map cell) (take_more (a ++ b) index [] h) ∙ flat_map-append cell (take index (a ++ b)) (k ∷ []) ∙ ap (λ x. flat_map cell (take index (a ++ b)) ++ x) (append-nil (cell k)) in
          omega (arith, t.at_is, ap length q, length-append (flat_map cell (take index (a ++ b))) (cell k), u.len n w)

      pub this_size : (turn < length a) ⊎ (length a < turn) → turn < length sizes → get_or sizes turn 0 ≡ 1 + n
      this_size s h = own_size s h ∙ ap (λ m. 1 + m) (sym (u.len n w))

      here_next : z ≡ zeros (length page) (flat_map cell (a ++ b)) → drop (at + (1 + n)) page ≡ flat_map cell (drop (index + 1) (a ++ b)) ++ zeros (length page) (flat_map cell (a ++ b))
      here_next q = u.next n w ∙ ap (λ x. flat_map cell (drop (index + 1) (a ++ b)) ++ x) q

      -- another key's turn is over
      pub next_own : (h2 : Half) → z ≡ zeros (length page) (flat_map cell (a ++ b)) → (turn < length a) ⊎ (length a < turn) → turn < length sizes → Counted sizes (take turn sizes ++ (1 + n) ∷ []) h2 →
          Turned page (turn + 1) (index + 1) (at + (1 + n)) h2
      next_own h2 q (inl l) h k = record {
        counted = counted_more (1 + n) h2 h (this_size (inl l) h) k;
        here = here_next q;
        at_is = at_next (own_few (inl l) h);
        before = λ m. omega (arith, t.before (omega arith));
        behind = λ m. absurd (omega arith);
      }
      next_own h2 q (inr l) h k = record {
        counted = counted_more (1 + n) h2 h (this_size (inr l) h) k;
        here = here_next q;
        at_is = at_next (own_few (inr l) h);
        before = λ m. absurd (omega arith);
        behind = λ m. omega (arith, t.behind l);
      }

      -- half is reached with another key
      pub own_half : (k : ℕ) (cut : Cut) → k ≡ suc turn → turn < length sizes → cut.index ≡ index + 1 → cut.at ≡ at + (1 + n) → (turn < length a → cut.stays ≡ false) → (length a < turn → cut.stays ≡ true) →
          (turn < length a) ⊎ (length a < turn) → Parted a b k cut
      own_half k cut qk h qi qa down up (inl l) =
          let x = t.before (omega arith) in
          let e : take (index + 1) (a ++ b) ≡ take (index + 1) a = take-append-le (index + 1) a b (omega arith) in
          let long = length-take-le (index + 1) a (omega arith) in
          goes (take (index + 1) a) (drop (index + 1) a) (sym (take-append-drop (index + 1) a)) (omega (arith, long)) (down l) (omega (arith, long)) (qa ∙ at_next (own_few (inl l) h) ∙ ap (λ ks. 4 + length (flat_map cell ks)) e)
      own_half k cut qk h qi qa down up (inr l) =
          let x = t.behind l in
          let m = turn - length a in
          let few = own_few (inr l) h in
          let e : take (index + 1) (a ++ b) ≡ a ++ take m b = ap (λ i. take i (a ++ b)) (omega arith) ∙ take-append-add a b m in
          let long = length-take-le m b (omega (arith, length-append a b)) in
          stays (take m b) (drop m b) (sym (take-append-drop m b)) (omega (arith, long)) (up l) (omega (arith, long, length-append a (take m b))) (qa ∙ at_next few ∙ ap (λ ks. 4 + length (flat_map cell ks)) e)

    -- half is reached with the new key
    pub new_half : (k : ℕ) (cut : Cut) → k ≡ suc turn → turn ≡ length a → cut.index ≡ index → cut.at ≡ at → cut.stays ≡ true → Parted a b k cut
    new_half k cut qk q qi qa up =
        let x = t.before (omega arith) in
        let e : take index (a ++ b) ≡ a ++ [] = ap (λ i. take i (a ++ b)) (omega arith) ∙ take-append-add a b 0 in
        stays [] b refl (omega arith) up (omega (arith, length-append a [])) (qa ∙ t.at_is ∙ ap (λ ks. 4 + length (flat_map cell ks)) e)

  -- all keys have been counted, and they are half
  pub never : (half : Half) (n : ℕ) → n ≡ length sizes → Counted sizes (take n sizes) half → ⊥
  never half n q k = omega (arith, k.short, ap sum (take_all n sizes (omega arith)))

pub side : (turn n : ℕ) → (turn ≡ n → ⊥) → (turn ≡ n) ⊎ ((turn < n) ⊎ (n < turn)) → (turn < n) ⊎ (n < turn)
side turn n other (inl e) = absurd (other e)
side turn n other (inr s) = s

-- what stops the reading of cells lies in the page
pub inside : (page : List ℕ) (fault : PageFault) → Stops page fault → (at : ℕ) × (at ≤ length page) × (fault ≡ Damaged at)
inside page (Damaged at) (inl s) = (at, omega (arith, s.0), refl)
inside page (Damaged at) (inr s) = (at, s.0, refl)
inside page Full s = absurd s
inside page KeyLength s = absurd s
