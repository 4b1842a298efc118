-- A whole leaf looked at.
use Rattle.std.proofs.Common.{◌≡◌, ℕ, ◌+◌, ◌-◌, ◌*◌, ◌/◌, ◌%◌, ◌<◌, ◌≤◌, List, [], ◌∷◌, ◌++◌, length, take, drop, get_or, replicate, sym, refl, ap, subst, ◌∙◌, append_assoc, arith, length-append, length-drop, All, Ok, Err, Result, MatchResult}
use Rattle.std.specs.List.{flat_map}
use Rattle.std.proofs.lemmas.Grind.{flat_map-append}
use Rattle.std.proofs.lemmas.List.{append-nil, drop_more, drop-drop, take-append-drop, length-take-le, get_or-replicate, length-replicate}
use Rattle.std.proofs.lemmas.List.Elements.{All-nil, All-push}
use Rattle.codes.specs.Strings.{Less}
use Rattle.layout.specs.declared.fault.PageFault.{PageFault}
use Rattle.layout.specs.declared.fault.PageFault.TheVariants.{Damaged, Full, KeyLength}
use Rattle.layout.specs.Pages.{zeros}
use Rattle.layout.specs.Leaf.{cell, Leaf, Sized, Rising, CellAt, LeafHead}
use Rattle.layout.specs.Checks.{Begins, Wrong, in_length, in_head, in_link, in_cell, in_order, in_rest, NotLeaf}
use Rattle.layout.proofs.Turns.{turn, joined_more, joined_none}
use Rattle.layout.proofs.Leaves.{leaf_head, leaf_cells, numbered}
use Rattle.layout.proofs.Unique.{joined_begin, cell_parses, leaf_once}
use Rattle.layout.proofs.Rises.{rising_push, ends_rising}
use Rattle.layout.proofs.Zeros.{four}

pub begin_none : (page : List ℕ) → Begins page []
begin_none page = record { front = refl; sized = All-nil Sized; rising = λ i j d h l. absurd (omega arith) }

-- a cell that is whole
pub cell_there : (page : List ℕ) (at len : ℕ) (k : List ℕ) → CellAt page at len → k ≡ take (at + 1 + len - (at + 1)) (drop (at + 1) page) →
    (length k ≡ len) × (drop at page ≡ cell k ++ drop (at + (1 + length k)) page)
cell_there page at len k w q =
    let q2 : k ≡ take len (drop (at + 1) page) = q ∙ ap (λ n. take n (drop (at + 1) page)) (omega arith) in
    let lk : length k ≡ len = ap length q2 ∙ length-take-le len (drop (at + 1) page) (omega (arith, length-drop (at + 1) page, w.within)) in
    let d : drop at page ≡ get_or page at 0 ∷ drop (at + 1) page = drop_more page at 0 (omega (arith, w.within)) in
    let t : drop (at + 1) page ≡ k ++ drop (at + (1 + length k)) page =
    sym (take-append-drop len (drop (at + 1) page)) ∙ ap (λ (x : List ℕ). x ++ drop len (drop (at + 1) page)) (sym q2)
    ∙ ap (λ (x : List ℕ). k ++ x) (drop-drop len (at + 1) page ∙ ap (λ n. drop n page) (omega arith)) in
    (lk, d ∙ ap (λ (x : List ℕ). get_or page at 0 ∷ x) t ∙ ap (λ n. n ∷ (k ++ drop (at + (1 + length k)) page)) (sym w.read ∙ sym lk))

pub begin_more : (page : List ℕ) (ks : List (List ℕ)) (at len : ℕ) (k : List ℕ) → Begins page ks → at ≡ 4 + length (flat_map cell ks) → CellAt page at len →
    k ≡ take (at + 1 + len - (at + 1)) (drop (at + 1) page) → All (λ x. Less x k) ks →
    Begins page (ks ++ k ∷ []) × (at + (1 + len) ≡ 4 + length (flat_map cell (ks ++ k ∷ [])))
begin_more page ks at len k b q w e o =
    let there = cell_there page at len k w e in
    let more : flat_map cell (ks ++ k ∷ []) ≡ flat_map cell ks ++ cell k = flat_map-append cell ks (k ∷ []) ∙ ap (λ x. flat_map cell ks ++ x) (append-nil (cell k)) in
    let long : at + (1 + len) ≡ 4 + length (flat_map cell (ks ++ k ∷ [])) = omega (arith, ap length more, length-append (flat_map cell ks) (cell k), there.0) in
    let same : at + (1 + length k) ≡ 4 + length (flat_map cell (ks ++ k ∷ [])) = omega (arith, there.0) in
    let front : drop 4 page ≡ flat_map cell (ks ++ k ∷ []) ++ drop (4 + length (flat_map cell (ks ++ k ∷ []))) page =
    b.front ∙ ap (λ n. flat_map cell ks ++ drop n page) (sym q) ∙ ap (λ x. flat_map cell ks ++ x) there.1
    ∙ sym (append_assoc (flat_map cell ks) (cell k) (drop (at + (1 + length k)) page))
    ∙ ap (λ x. x ++ drop (at + (1 + length k)) page) (sym more) ∙ ap (λ n. flat_map cell (ks ++ k ∷ []) ++ drop n page) same in
    let lo : 1 ≤ length k = omega (arith, there.0, w.low) in
    let hi : length k ≤ 120 = omega (arith, there.0, w.high) in
    (record { front = front; sized = All-push Sized ks k b.sized (lo, hi); rising = rising_push ks k b.rising o }, long)

pub begin_all : (page : List ℕ) (ks : List (List ℕ)) → length page ≤ 1024 → get_or page 1 0 < 256 → get_or page 2 0 ≡ 0 → get_or page 3 0 ≡ 0 → LeafHead page (length ks) → Begins page ks →
    drop (4 + length (flat_map cell ks)) page ≡ replicate (length (drop (4 + length (flat_map cell ks)) page)) 0 → Leaf page ks
unfolding zeros
begin_all page ks short byte b c h g z =
    let n = length ks in
    let cs = flat_map cell ks in
    let k : get_or page 0 0 / 64 ≡ 1 = h.kind in
    let s : n ≡ get_or page 0 0 % 64 * 256 + get_or page 1 0 = h.stated in
    let a0 : get_or page 0 0 ≡ 64 + n / 256 = omega arith in
    let a1 : get_or page 1 0 ≡ n % 256 = omega arith in
    let r : drop 4 page ≡ cs ++ replicate (length page - (4 + length cs)) 0 = g.front ∙ ap (λ x. cs ++ x) (z ∙ ap (λ m. replicate m 0) (length-drop (4 + length cs) page)) in
    record {
      bytes =
          four page h.long ∙ ap (λ x. x ∷ get_or page 1 0 ∷ get_or page 2 0 ∷ get_or page 3 0 ∷ drop 4 page) a0
          ∙ ap (λ x. (64 + n / 256) ∷ x ∷ get_or page 2 0 ∷ get_or page 3 0 ∷ drop 4 page) a1
          ∙ ap (λ x. (64 + n / 256) ∷ n % 256 ∷ x ∷ get_or page 3 0 ∷ drop 4 page) b
          ∙ ap (λ x. (64 + n / 256) ∷ n % 256 ∷ 0 ∷ x ∷ drop 4 page) c
          ∙ ap (λ x. (64 + n / 256) ∷ n % 256 ∷ 0 ∷ 0 ∷ x) r;
      sized = g.sized;
      short = short;
    }

pub zero_at : (len i : ℕ) (cs : List ℕ) → i < length (zeros len cs) → get_or (zeros len cs) i 0 ≡ 0
unfolding zeros
zero_at len i cs h = get_or-replicate (len - (4 + length cs)) i 0 0 (omega (arith, length-replicate {A = ℕ} (len - (4 + length cs)) 0))

module _ (page : List ℕ) (keys : List (List ℕ)) (lf : Leaf page keys) (r : Rising keys) where
  lined : (js : List (List ℕ)) → Begins page js → length js ≤ length keys →
      (js ≡ take (length js) keys) × (drop (4 + length (flat_map cell js)) page ≡ flat_map cell (drop (length js) keys) ++ zeros (length page) (flat_map cell keys))
  lined js b l = joined_begin cell cell_parses js keys (drop (4 + length (flat_map cell js)) page) (zeros (length page) (flat_map cell keys)) l (sym b.front ∙ leaf_cells page keys lf)

  pub not_wrong : (at : ℕ) → Wrong page at → ⊥
  not_wrong at (in_length q far) = omega (arith, far, lf.short)
  not_wrong at (in_head q bad) = bad (length keys) (leaf_head page keys lf)
  not_wrong at (in_link q bad) = bad (omega (arith, ap (λ (x : List ℕ). get_or x 2 0) lf.bytes, ap (λ (x : List ℕ). get_or x 3 0) lf.bytes))
  not_wrong at (in_cell n js h b l q bad) =
      let m = numbered page keys lf n h in
      let t = turn page at keys (length js) (zeros (length page) (flat_map cell keys)) lf.sized (omega arith) (ap (λ k. drop k page) q ∙ (lined js b (omega arith)).1) in
      bad (length (get_or keys (length js) [])) t.whole
  not_wrong at (in_order n js last key h b l q ends there bad) =
      let m = numbered page keys lf n h in
      let i : length js < length keys = omega arith in
      let d = lined js b (omega arith) in
      let z = zeros (length page) (flat_map cell keys) in
      let g = get_or keys (length js) [] in
      let same : key ≡ g =
      (cell_parses key g (drop (at + (1 + length key)) page) (flat_map cell (drop (length js + 1) keys) ++ z)
      (sym there ∙ ap (λ k. drop k page) q ∙ d.1 ∙ joined_more cell keys (length js) [] z i)).0 in
      bad (subst (λ (x : List ℕ). Less last x) (sym same) (ends_rising keys js last r lf.sized d.0 i ends))
  not_wrong at (in_rest js i h b q first) =
      let m = numbered page keys lf (length js) h in
      let z = zeros (length page) (flat_map cell keys) in
      let d : drop (4 + length (flat_map cell js)) page ≡ z = (lined js b (omega arith)).1 ∙ joined_none cell keys (length js) z (omega arith) in
      first.2 (ap (λ (x : List ℕ). get_or x i 0) d ∙ zero_at (length page) i (flat_map cell keys) (omega (arith, first.0, ap length d)))

abbrev pub Answers : List ℕ → Result ℕ PageFault → Type 0
Answers page r = MatchResult r (λ n. (keys : List (List ℕ)) × Leaf page keys × Rising keys × (n ≡ length keys)) (λ fault. NotLeaf page fault)

not_leaf : (page : List ℕ) (keys : List (List ℕ)) → Leaf page keys → Rising keys → (f : PageFault) → NotLeaf page f → ⊥
not_leaf page keys lf r (Damaged at) h = not_wrong page keys lf r at h
not_leaf page keys lf r Full h = h
not_leaf page keys lf r KeyLength h = h

pub leaves_same : (page : List ℕ) (keys others : List (List ℕ)) → Leaf page keys → Leaf page others → keys ≡ others
leaves_same page keys others a b = leaf_once (length page) (length page) keys others (sym a.bytes ∙ b.bytes)

pub accepts : (page : List ℕ) (r : Result ℕ PageFault) → Answers page r → (keys : List (List ℕ)) → Leaf page keys → Rising keys → r ≡ Ok (length keys)
accepts page (Ok n) a keys lf up = ap Ok (a.3 ∙ ap length (leaves_same page a.0 keys a.1 lf))
accepts page (Err f) a keys lf up = absurd (not_leaf page keys lf up f a)
