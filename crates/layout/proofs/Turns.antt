-- Cells one behind the other in a page.
use Rattle.std.proofs.Common.{◌≡◌, ℕ, ◌+◌, ◌-◌, ◌<◌, ◌≤◌, List, [], ◌++◌, length, take, drop, get_or, sym, ap, ◌∙◌, append_assoc, arith, length-append, length-drop, All}
use Rattle.std.specs.List.{flat_map}
use Rattle.std.proofs.lemmas.List.{drop_more, drop_all, drop-drop, drop_at, take_at, get_or-drop}
use Rattle.std.proofs.lemmas.List.Elements.{All-get_or}
use Rattle.layout.specs.Leaf.{cell, Sized, CellAt}

-- the first of the cells that are left
pub joined_more : {A : Type 0} → (f : A → List ℕ) (xs : List A) (i : ℕ) (d : A) (z : List ℕ) → i < length xs →
    flat_map f (drop i xs) ++ z ≡ f (get_or xs i d) ++ (flat_map f (drop (i + 1) xs) ++ z)
joined_more f xs i d z h =
    ap (λ l. flat_map f l ++ z) (drop_more xs i d h) ∙ append_assoc (f (get_or xs i d)) (flat_map f (drop (i + 1) xs)) z

-- no cells are left
pub joined_none : {A : Type 0} → (f : A → List ℕ) (xs : List A) (i : ℕ) (z : List ℕ) → length xs ≤ i → flat_map f (drop i xs) ++ z ≡ z
joined_none f xs i z h = ap (λ l. flat_map f l ++ z) (drop_all i xs h)

-- a cell that stands at a place: its length, its key, and what is behind it
module _ (page : List ℕ) (at : ℕ) (k r : List ℕ) (e : drop at page ≡ cell k ++ r) where
  pub cell_read : get_or page at 0 ≡ length k
  cell_read = ap (λ n. get_or page n 0) (omega arith) ∙ sym (get_or-drop at page 0 0) ∙ ap (λ (l : List ℕ). get_or l 0 0) e

  pub cell_within : at + length k < length page
  cell_within = omega (arith, sym (length-drop at page) ∙ ap length e, length-append k r)

  cell_behind : drop (at + 1) page ≡ k ++ r
  cell_behind = sym (drop-drop 1 at page) ∙ ap (λ (l : List ℕ). drop 1 l) e

  pub cell_key : (n : ℕ) → n ≡ length k → take (at + 1 + n - (at + 1)) (drop (at + 1) page) ≡ k
  cell_key n q = ap (take (at + 1 + n - (at + 1))) cell_behind ∙ take_at k r (at + 1 + n - (at + 1)) (omega arith)

  pub cell_next : (n : ℕ) → n ≡ length k → drop (at + (1 + n)) page ≡ r
  cell_next n q = ap (λ m. drop m page) (omega arith) ∙ sym (drop-drop n (at + 1) page) ∙ ap (drop n) cell_behind ∙ drop_at k r n (sym q)

-- what a turn at the cell i reads
pub record Turn (page : List ℕ) (at : ℕ) (ks : List (List ℕ)) (i : ℕ) (z : List ℕ) : Type 0 where
  pub whole : CellAt page at (length (get_or ks i []))
  pub len : (n : ℕ) → CellAt page at n → n ≡ length (get_or ks i [])
  pub key : (n : ℕ) → CellAt page at n → take (at + 1 + n - (at + 1)) (drop (at + 1) page) ≡ get_or ks i []
  pub next : (n : ℕ) → CellAt page at n → drop (at + (1 + n)) page ≡ flat_map cell (drop (i + 1) ks) ++ z
  pub rest : length (flat_map cell (drop i ks)) ≡ 1 + length (get_or ks i []) + length (flat_map cell (drop (i + 1) ks))

pub turn : (page : List ℕ) (at : ℕ) (ks : List (List ℕ)) (i : ℕ) (z : List ℕ) → All Sized ks → i < length ks →
    drop at page ≡ flat_map cell (drop i ks) ++ z → Turn page at ks i z
turn page at ks i z s h e =
    let k = get_or ks i [] in
    let r = flat_map cell (drop (i + 1) ks) ++ z in
    let d : drop at page ≡ cell k ++ r = e ∙ joined_more cell ks i [] z h in
    let b = cell_read page at k r d in
    let sz = All-get_or Sized ks i [] h s in
    let more = ap (λ l. length (flat_map cell l)) (drop_more ks i [] h) in
    record {
      whole = record { within = cell_within page at k r d; read = sym b; low = sz.0; high = sz.1 };
      len = λ n w. w.read ∙ b;
      key = λ n w. cell_key page at k r d n (w.read ∙ b);
      next = λ n w. cell_next page at k r d n (w.read ∙ b);
      rest = omega (arith, more, length-append (cell k) (flat_map cell (drop (i + 1) ks)));
    }
