-- A search of a leaf.
use Rattle.std.proofs.Common.{◌≡◌, ℕ, ◌+◌, ◌<◌, true, false, List, [], ◌∷◌, ◌++◌, length, take, drop, get_or, sym, refl, ap, ◌∙◌, subst, inl, inr, arith, length-append, All}
use Rattle.std.specs.List.{flat_map}
use Rattle.std.proofs.lemmas.Grind.{flat_map-append}
use Rattle.std.proofs.lemmas.List.{drop_more, take_more, take_all, get_or-drop, length-drop, length-take-le, take-append-drop, append-nil}
use Rattle.std.proofs.lemmas.List.Elements.{All-from_get_or, All-more, All-cons, All-nil, All-weaker, All-same}
use Rattle.codes.specs.Strings.{Less}
use Rattle.layout.specs.Pages.{zeros}
use Rattle.layout.specs.Leaf.{cell, Leaf, Rising}
use Rattle.layout.specs.Places.{Found}
use Rattle.layout.proofs.Turns.{Turn}
use Rattle.layout.proofs.Leaves.{leaf_cells}

pub less_trans : (a b c : List ℕ) → Less a b → Less b c → Less a c
less_trans [] [] c h g = absurd h
less_trans [] (y ∷ ys) [] h g = absurd g
less_trans [] (y ∷ ys) (z ∷ zs) h g = tt
less_trans (x ∷ xs) [] c h g = absurd h
less_trans (x ∷ xs) (y ∷ ys) [] h g = absurd g
less_trans (x ∷ xs) (y ∷ ys) (z ∷ zs) (inl h) (inl g) = inl (omega arith)
less_trans (x ∷ xs) (y ∷ ys) (z ∷ zs) (inl h) (inr g) = inl (omega arith)
less_trans (x ∷ xs) (y ∷ ys) (z ∷ zs) (inr h) (inl g) = inl (omega arith)
less_trans (x ∷ xs) (y ∷ ys) (z ∷ zs) (inr h) (inr g) = inr (h.0 ∙ g.0, less_trans xs ys zs h.1 g.1)

-- where a search is: all keys before are below
pub record Passed (page key : List ℕ) (keys : List (List ℕ)) (i at : ℕ) : Type 0 where
  pub here : drop at page ≡ flat_map cell (drop i keys) ++ zeros (length page) (flat_map cell keys)
  pub at_is : at ≡ 4 + length (flat_map cell (take i keys))
  pub below : All (λ x. Less x key) (take i keys)

module _ (page key : List ℕ) (keys : List (List ℕ)) where
  pub passed_none : Leaf page keys → Passed page key keys 0 4
  passed_none lf = record { here = leaf_cells page keys lf; at_is = refl; below = All-nil (λ x. Less x key) }

  pub passed_more : (i at n : ℕ) → i < length keys → Passed page key keys i at → Turn page at keys i (zeros (length page) (flat_map cell keys)) →
      Rattle.layout.specs.Leaf.CellAt page at n → Less (get_or keys i []) key → Passed page key keys (i + 1) (at + (1 + n))
  passed_more i at n h p t w l =
      let k = get_or keys i [] in
      let q = ap (flat_map cell) (take_more keys i [] h) ∙ flat_map-append cell (take i keys) (k ∷ []) ∙ ap (λ z. flat_map cell (take i keys) ++ z) (append-nil (cell k)) in
      record {
        here = t.next n w;
        at_is = omega (arith, p.at_is, ap length q, length-append (flat_map cell (take i keys)) (cell k), t.len n w);
        below = All-more (λ x. Less x key) keys i [] h p.below l;
      }

  -- the keys behind one key are above it
  above : (i : ℕ) → i < length keys → Rising keys → All (λ x. Less (get_or keys i []) x) (drop (i + 1) keys)
  above i h r =
      All-from_get_or (λ x. Less (get_or keys i []) x) (drop (i + 1) keys) []
      (λ j l. subst (λ (x : List ℕ). Less (get_or keys i []) x) (sym (get_or-drop (i + 1) keys j [])) (r i (i + 1 + j) [] (omega arith) (omega (arith, length-drop (i + 1) keys, l))))

  pub found_same : (i at : ℕ) → i < length keys → Rising keys → Passed page key keys i at → get_or keys i [] ≡ key → Found key keys (record { present = true; index = i; at = at })
  found_same i at h r p e =
      let e2 : get_or keys i [] ∷ drop (i + 1) keys ≡ key ∷ drop (i + 1) keys = ap (λ x. x ∷ drop (i + 1) keys) e in
      record {
        before = take i keys;
        behind = drop (i + 1) keys;
        split = sym (take-append-drop i keys) ∙ ap (λ l. take i keys ++ l) (drop_more keys i [] h ∙ e2);
        below = p.below;
        above = subst (λ (x : List ℕ). All (λ y. Less x y) (drop (i + 1) keys)) e (above i h r);
        index = sym (length-take-le i keys (omega arith));
        at = p.at_is;
      }

  pub found_above : (i at : ℕ) → i < length keys → Rising keys → Passed page key keys i at → Less key (get_or keys i []) → Found key keys (record { present = false; index = i; at = at })
  found_above i at h r p l =
      let k = get_or keys i [] in
      let up = All-cons (λ x. Less key x) k (drop (i + 1) keys) l (All-weaker (λ x. Less k x) (λ x. Less key x) (λ x g. less_trans key k x l g) (drop (i + 1) keys) (above i h r)) in
      record {
        before = take i keys;
        behind = drop i keys;
        split = sym (take-append-drop i keys);
        below = p.below;
        above = All-same (λ x. Less key x) (drop i keys) (k ∷ drop (i + 1) keys) (drop_more keys i [] h) up;
        index = sym (length-take-le i keys (omega arith));
        at = p.at_is;
      }

  pub found_end : (i n at : ℕ) → i ≡ length keys → n ≡ i → Passed page key keys i at → Found key keys (record { present = false; index = n; at = at })
  found_end i n at h q p = record {
    before = take i keys;
    behind = [];
    split = sym (take_all i keys (omega arith)) ∙ sym (append-nil (take i keys));
    below = p.below;
    above = All-nil (λ x. Less key x);
    index = q ∙ sym (length-take-le i keys (omega arith));
    at = p.at_is;
  }
