-- Cells are read back in one way only.
use Rattle.std.proofs.Common.{◌≡◌, ℕ, ◌+◌, ◌/◌, ◌%◌, ◌≤◌, List, [], ◌∷◌, ◌++◌, length, take, drop, get_or, sym, refl, ap, ◌∙◌, append_assoc, arith}
use Rattle.std.specs.List.{flat_map}
use Rattle.std.proofs.lemmas.List.{take_at, drop_at, take_all}
use Rattle.layout.specs.Pages.{zeros}
use Rattle.layout.specs.Leaf.{cell, leaf_bytes}

-- a cell at the front of bytes tells what it was made of, and what is behind it
abbrev pub Parses : {A : Type 0} → (A → List ℕ) → Type 0
Parses {A} f = (x y : A) (r z : List ℕ) → f x ++ r ≡ f y ++ z → (x ≡ y) × (r ≡ z)

pub cell_parses : Parses cell
cell_parses k j r z e =
    let l : length k ≡ length j = ap (λ (x : List ℕ). get_or x 0 0) e in
    let t : k ++ r ≡ j ++ z = ap (λ (x : List ℕ). drop 1 x) e in
    (sym (take_at k r (length j) l) ∙ ap (take (length j)) t ∙ take_at j z (length j) refl, sym (drop_at k r (length j) l) ∙ ap (drop (length j)) t ∙ drop_at j z (length j) refl)

-- the cells that bytes begin with are those that they were made of
pub joined_begin : {A : Type 0} → (f : A → List ℕ) → Parses f → (xs ys : List A) (r z : List ℕ) → length xs ≤ length ys → flat_map f xs ++ r ≡ flat_map f ys ++ z →
    (xs ≡ take (length xs) ys) × (r ≡ flat_map f (drop (length xs) ys) ++ z)
joined_begin f p [] ys r z h e = (refl, e)
joined_begin f p (x ∷ xs) [] r z h e = absurd (omega arith)
joined_begin f p (x ∷ xs) (y ∷ ys) r z h e =
    let t = p x y (flat_map f xs ++ r) (flat_map f ys ++ z) (sym (append_assoc (f x) (flat_map f xs) r) ∙ e ∙ append_assoc (f y) (flat_map f ys) z) in
    let i = joined_begin f p xs ys r z (omega arith) t.1 in
    let a = t.0 in
    let b = i.0 in
    (cc, i.1)

-- a page is the leaf of one list of keys
pub leaf_once : (l m : ℕ) (xs ys : List (List ℕ)) → leaf_bytes l xs ≡ leaf_bytes m ys → xs ≡ ys
leaf_once l m xs ys e =
    let high : 64 + length xs / 256 ≡ 64 + length ys / 256 = ap (λ (x : List ℕ). get_or x 0 0) e in
    let low : length xs % 256 ≡ length ys % 256 = ap (λ (x : List ℕ). get_or x 1 0) e in
    let n : length xs ≡ length ys = omega arith in
    (joined_begin cell cell_parses xs ys (zeros l (flat_map cell xs)) (zeros m (flat_map cell ys)) (omega arith) (ap (λ (x : List ℕ). drop 4 x) e)).0
    ∙ ap (λ k. take k ys) n ∙ take_all (length ys) ys (omega arith)
