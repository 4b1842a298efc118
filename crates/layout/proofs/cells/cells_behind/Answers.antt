use Rattle.std.proofs.Common.{inl, inr, ◌≡◌, ◌+◌, ◌-◌, ◌++◌, length, refl, arith, length-append}
use Rattle.std.specs.List.{flat_map}
use Rattle.layout.specs.Pages.{zeros}
use Rattle.std.proofs.lemmas.Result.{err_from_is_err_and}
use Rattle.layout.specs.Faults.{Stops}
use Rattle.layout.specs.declared.fault.PageFault.TheVariants.{Damaged}
use Rattle.layout.specs.Leaf.{cell}
use Rattle.layout.proofs.Leaves.{leaf_head, leaf_behind, numbered, sized_behind}
use Rattle.layout.proofs.cells.cells_behind.Goals as goal

pub returns-in_err-number-clause-cells : goal.returns-in_err-number-clause-cells
returns-in_err-number-clause-cells c = λ a b lf p. absurd ((c.in_err-number.ensures).1 (length (a ++ b)) (leaf_head c.args.page.now (a ++ b) lf))

pub returns-in_err-end-clause-cells : goal.returns-in_err-end-clause-cells
returns-in_err-end-clause-cells c = λ a b lf p.
    let page = c.args.page.now in
    let n = numbered page (a ++ b) lf c.in_ok-number.number c.in_ok-number.ensures in
    let count : length b ≡ c.in_ok-number.number - c.args.place.index = omega (arith, n, p.0, length-append a b) in
    let told = (c.in_err-end.ensures).cells b (zeros (length page) (flat_map cell (a ++ b))) (leaf_behind page a b c.args.place.at lf p.1) (sized_behind a b lf.sized) count in
    let no : ⊥ = cc in absurd no

pub returns-clause-cells : goal.returns-clause-cells
returns-clause-cells c = λ a b lf p.
    let page = c.args.page.now in
    let n = numbered page (a ++ b) lf c.in_ok-number.number c.in_ok-number.ensures in
    let count : length b ≡ c.in_ok-number.number - c.args.place.index = omega (arith, n, p.0, length-append a b) in
    let told = (c.in_ok-end.ensures).cells b (zeros (length page) (flat_map cell (a ++ b))) (leaf_behind page a b c.args.place.at lf p.1) (sized_behind a b lf.sized) count in
    let q : c.in_ok-end.end ≡ c.args.place.at + length (flat_map cell b) = cc in
    (n, q)

pub returns-in_err-number-clause-faults : goal.returns-in_err-number-clause-faults
returns-in_err-number-clause-faults c =
    let p = err_from_is_err_and c.from_residual.result c.from_residual.ensures.1 in
    let w : Stops c.args.page.now (Damaged 0) = inl (refl, (c.in_err-number.ensures).1) in
    rw (p.1, p.2, (c.in_err-number.ensures).0) (inr w)

pub returns-in_err-end-clause-faults : goal.returns-in_err-end-clause-faults
returns-in_err-end-clause-faults c =
    let p = err_from_is_err_and c.from_residual-in_err-end.result c.from_residual-in_err-end.ensures.1 in
    rw (p.1, p.2) (inr ((c.in_err-end.ensures).bounds))
