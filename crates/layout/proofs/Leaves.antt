-- What the bytes of a leaf tell.
use Rattle.std.proofs.Common.{◌≡◌, ℕ, ◌+◌, ◌-◌, ◌*◌, ◌/◌, ◌%◌, ◌<◌, ◌≤◌, List, [], ◌∷◌, ◌++◌, length, take, drop, replicate, slice_index, sym, refl, ap, subst, ◌∙◌, arith, length-append, All}
use Rattle.std.specs.List.{flat_map}
use Rattle.std.proofs.lemmas.List.{drop_at, take_at}
use Rattle.std.proofs.lemmas.List.Elements.{All-head, All-tail, All-append, All-drop, All-take, All-cons}
use Rattle.layout.specs.Pages.{head, zeros, page_bytes}
use Rattle.layout.specs.Leaf.{cell, Leaf, Sized, leaf_bytes, LeafHead}
use Rattle.layout.proofs.Edits.{page_fits, length_page, split_two, more_list, renumbered, inserted, removed}

pub joined_long : (ks : List (List ℕ)) → All Sized ks → 2 * length ks ≤ length (flat_map cell ks)
joined_long [] s = omega arith
joined_long (k ∷ ks) s =
    let h = joined_long ks (All-tail Sized k ks s) in
    let t = All-head Sized k ks s in
    omega (arith, length-append (cell k) (flat_map cell ks), t.0)

module _ (page : List ℕ) (ks : List (List ℕ)) (lf : Leaf page ks) where
  pub leaf_fits : 4 + length (flat_map cell ks) ≤ length page
  leaf_fits = page_fits page 1 (length ks) 0 (flat_map cell ks) lf.bytes

  pub leaf_few : length ks < 512
  leaf_few = let a = leaf_fits in let b = joined_long ks lf.sized in let c = lf.short in omega arith

  pub leaf_head : LeafHead page (length ks)
  leaf_head =
      let few = leaf_few in
      let a : slice_index page 0 ≡ 64 + length ks / 256 = ap (λ (l : List ℕ). slice_index l 0) lf.bytes in
      let b : slice_index page 1 ≡ length ks % 256 = ap (λ (l : List ℕ). slice_index l 1) lf.bytes in
      record { long = omega (arith, leaf_fits); kind = omega arith; stated = omega arith }

  pub leaf_cells : drop 4 page ≡ flat_map cell ks ++ zeros (length page) (flat_map cell ks)
  leaf_cells = ap (λ (l : List ℕ). drop 4 l) lf.bytes

-- what `leaf_number` answers on a leaf
pub numbered : (page : List ℕ) (ks : List (List ℕ)) → Leaf page ks → (n : ℕ) → LeafHead page n → n ≡ length ks
numbered page ks lf n h = let g = leaf_head page ks lf in h.stated ∙ sym g.stated

-- the cells behind some keys of a leaf
pub leaf_behind : (page : List ℕ) (a b : List (List ℕ)) (at : ℕ) → Leaf page (a ++ b) → at ≡ 4 + length (flat_map cell a) →
    drop at page ≡ flat_map cell b ++ zeros (length page) (flat_map cell (a ++ b))
leaf_behind page a b at lf q =
    let h = head 1 (length (a ++ b)) 0 in
    ap (drop at) (lf.bytes ∙ split_two cell (length page) h a b)
    ∙ drop_at (h ++ flat_map cell a) (flat_map cell b ++ zeros (length page) (flat_map cell (a ++ b))) at (omega (arith, length-append h (flat_map cell a)))

pub sized_before : (a b : List (List ℕ)) → All Sized (a ++ b) → All Sized a
sized_before a b s = subst (λ (l : List (List ℕ)). All Sized l) (take_at a b (length a) refl) (All-take Sized (length a) (a ++ b) s)

pub sized_behind : (a b : List (List ℕ)) → All Sized (a ++ b) → All Sized b
sized_behind a b s = subst (λ (l : List (List ℕ)). All Sized l) (drop_at a b (length a) refl) (All-drop Sized (length a) (a ++ b) s)

module _ (page changed new : List ℕ) (a b : List (List ℕ)) (key : List ℕ) where
  pub leaf_inserted : (at end number : ℕ) → Leaf page (a ++ b) → Sized key → number ≡ length (a ++ b) → at ≡ 4 + length (flat_map cell a) → end ≡ at + length (flat_map cell b) →
      4 + length (flat_map cell (a ++ key ∷ b)) ≤ length page →
      changed ≡ take at page ++ (cell key ++ (take (end - at) (drop at page) ++ drop (end + (1 + length key)) page)) → new ≡ renumbered changed (number + 1) → Leaf new (a ++ key ∷ b)
  leaf_inserted at end number lf s qn qa qe room o r =
      let few = leaf_few page (a ++ b) lf in
      let w : 1 + length key ≡ length (cell key) = omega arith in
      let e = inserted cell page changed new 1 0 a b key at end (1 + length key) lf.bytes (omega arith) qa qe w o (r ∙ ap (λ m. renumbered changed (m + 1)) qn) in
      let l : length new ≡ length page = ap length e ∙ length_page (length page) 1 (length (a ++ key ∷ b)) 0 (flat_map cell (a ++ key ∷ b)) room in
      record {
        bytes = e ∙ ap (λ n. leaf_bytes n (a ++ key ∷ b)) (sym l);
        sized = All-append Sized a (key ∷ b) (sized_before a b lf.sized) (All-cons Sized key b s (sized_behind a b lf.sized));
        short = omega (arith, lf.short);
      }

module _ (page closed new : List ℕ) (a m b : List (List ℕ)) where
  pub leaf_removed : (at from end : ℕ) → Leaf page (a ++ (m ++ b)) → at ≡ 4 + length (flat_map cell a) → from ≡ at + length (flat_map cell m) → end ≡ from + length (flat_map cell b) →
      closed ≡ take at page ++ (take (end - from) (drop from page) ++ (replicate (from - at) 0 ++ drop end page)) → new ≡ renumbered closed (length (a ++ b)) → Leaf new (a ++ b)
  leaf_removed at from end lf qa qf qe o r =
      let few = leaf_few page (a ++ (m ++ b)) lf in
      let fits = leaf_fits page (a ++ (m ++ b)) lf in
      let e = removed cell page closed new 1 0 a m b at from end lf.bytes (omega arith) qa qf qe o r in
      let l : length new ≡ length page = ap length e ∙ length_page (length page) 1 (length (a ++ b)) 0 (flat_map cell (a ++ b)) (omega (arith, more_list cell a m b)) in
      let sb = sized_behind m b (sized_behind a (m ++ b) lf.sized) in
      record {
        bytes = e ∙ ap (λ n. leaf_bytes n (a ++ b)) (sym l);
        sized = All-append Sized a b (sized_before a (m ++ b) lf.sized) sb;
        short = omega (arith, lf.short);
      }

-- a page that was written with the cells of these keys
pub leaf_written : (old new cells : List ℕ) (number : ℕ) (ks : List (List ℕ)) → length old ≤ 1024 → All Sized ks → number ≡ length ks → cells ≡ flat_map cell ks → 4 + length (flat_map cell ks) ≤ length old →
    new ≡ page_bytes (length old) (head 1 number 0) cells → Leaf new ks
leaf_written old new cells number ks short sized n q room e =
    let d : new ≡ leaf_bytes (length old) ks = e ∙ ap (λ m. page_bytes (length old) (head 1 m 0) cells) n ∙ ap (λ (l : List ℕ). page_bytes (length old) (head 1 (length ks) 0) l) q in
    let l : length new ≡ length old = ap length d ∙ length_page (length old) 1 (length ks) 0 (flat_map cell ks) room in
    record { bytes = d ∙ ap (λ m. leaf_bytes m ks) (sym l); sized = sized; short = omega (arith, short) }

-- the bytes from behind some keys of a leaf to the end of the others' cells
pub leaf_part : (page : List ℕ) (a b : List (List ℕ)) (at end : ℕ) → Leaf page (a ++ b) → at ≡ 4 + length (flat_map cell a) → end ≡ at + length (flat_map cell b) →
    take (end - at) (drop at page) ≡ flat_map cell b
leaf_part page a b at end lf qa qe = ap (take (end - at)) (leaf_behind page a b at lf qa) ∙ take_at (flat_map cell b) (zeros (length page) (flat_map cell (a ++ b))) (end - at) (omega arith)
