use Rattle.std.proofs.Common.{inl, inr, ◌≡◌, ◌+◌, ◌-◌, ◌++◌, ◌∷◌, [], ap, ◌∙◌, length, refl, arith, length-append}
use Rattle.std.specs.List.{flat_map}
use Rattle.std.proofs.lemmas.List.Elements.{All-tail}
use Rattle.layout.specs.Pages.{zeros}
use Rattle.std.proofs.lemmas.Result.{err_from_is_err_and}
use Rattle.layout.specs.Faults.{Stops}
use Rattle.layout.specs.declared.fault.PageFault.TheVariants.{Damaged}
use Rattle.layout.specs.Leaf.{cell, Sized}
use Rattle.layout.proofs.Leaves.{leaf_head, leaf_behind, numbered, sized_behind, leaf_removed}
use Rattle.layout.proofs.Turns.{turn}
use Rattle.layout.proofs.Edits.{renumbered}
use Rattle.layout.proofs.leaf.remove.Goals as goal

pub returns-in_err-number-clause-removed : goal.returns-in_err-number-clause-removed
returns-in_err-number-clause-removed c = λ a b key lf p. absurd ((c.in_err-number.ensures).1 (length (a ++ key ∷ b)) (leaf_head c.args.page.now (a ++ key ∷ b) lf))

pub returns-in_err-len-clause-removed : goal.returns-in_err-len-clause-removed
returns-in_err-len-clause-removed c = λ a b key lf p.
    let page = c.args.page.now in
    let z = zeros (length page) (flat_map cell (a ++ key ∷ b)) in
    let sized = sized_behind a (key ∷ b) lf.sized in
    let t = turn page c.args.place.at (key ∷ b) 0 z sized (omega arith) (leaf_behind page a (key ∷ b) c.args.place.at lf p.1) in
    absurd ((c.in_err-len.ensures).1 (length key) t.whole)

pub returns-in_err-end-clause-removed : goal.returns-in_err-end-clause-removed
returns-in_err-end-clause-removed c = λ a b key lf p.
    let page = c.args.page.now in
    let z = zeros (length page) (flat_map cell (a ++ key ∷ b)) in
    let sized = sized_behind a (key ∷ b) lf.sized in
    let t = turn page c.args.place.at (key ∷ b) 0 z sized (omega arith) (leaf_behind page a (key ∷ b) c.args.place.at lf p.1) in
    let n = numbered page (a ++ key ∷ b) lf c.in_ok-number.number c.in_ok-number.ensures in
    let count : length b ≡ c.in_ok-number.number - c.args.place.index - 1 = omega (arith, n, p.0, length-append a (key ∷ b)) in
    let told = (c.in_err-end.ensures).cells b z (t.next c.in_ok-len.len c.in_ok-len.ensures) (All-tail Sized key b sized) count in
    let no : ⊥ = cc in absurd no

pub returns-clause-removed : goal.returns-clause-removed
returns-clause-removed c = λ a b key lf p.
    let page = c.args.page.now in
    let z = zeros (length page) (flat_map cell (a ++ key ∷ b)) in
    let sized = sized_behind a (key ∷ b) lf.sized in
    let t = turn page c.args.place.at (key ∷ b) 0 z sized (omega arith) (leaf_behind page a (key ∷ b) c.args.place.at lf p.1) in
    let n = numbered page (a ++ key ∷ b) lf c.in_ok-number.number c.in_ok-number.ensures in
    let count : length b ≡ c.in_ok-number.number - c.args.place.index - 1 = omega (arith, n, p.0, length-append a (key ∷ b)) in
    let told = (c.in_ok-end.ensures).cells b z (t.next c.in_ok-len.len c.in_ok-len.ensures) (All-tail Sized key b sized) count in
    let from = c.args.place.at + (1 + c.in_ok-len.len) in
    let q : c.in_ok-end.end ≡ from + length (flat_map cell b) = cc in
    let l = t.len c.in_ok-len.len c.in_ok-len.ensures in
    let count2 : c.in_ok-number.number - 1 ≡ length (a ++ b) = omega (arith, n, length-append a (key ∷ b), length-append a b) in (
      refl,
      leaf_removed page c.close.new.page c.set_number.new.page a (key ∷ []) b c.args.place.at from c.in_ok-end.end lf p.1 (omega (arith, l, length-append (cell key) [])) q c.close.ensures (c.set_number.ensures ∙ ap (renumbered c.close.new.page) count2),
    )

pub returns-in_err-number-clause-faults : goal.returns-in_err-number-clause-faults
returns-in_err-number-clause-faults c =
    let p = err_from_is_err_and c.from_residual.result c.from_residual.ensures.1 in
    let w : Stops c.args.page.now (Damaged 0) = inl (refl, (c.in_err-number.ensures).1) in
    rw (p.1, p.2, (c.in_err-number.ensures).0) (inr w)

pub returns-in_err-len-clause-faults : goal.returns-in_err-len-clause-faults
returns-in_err-len-clause-faults c =
    let p = err_from_is_err_and c.from_residual-in_err-len.result c.from_residual-in_err-len.ensures.1 in
    rw (p.1, p.2, (c.in_err-len.ensures).0) (inl refl)

pub returns-in_err-end-clause-faults : goal.returns-in_err-end-clause-faults
returns-in_err-end-clause-faults c =
    let p = err_from_is_err_and c.from_residual-in_err-end.result c.from_residual-in_err-end.ensures.1 in
    rw (p.1, p.2) (inr ((c.in_err-end.ensures).bounds))
