use Rattle.std.proofs.Common.{inr, ◌≡◌, ℕ, ◌+◌, ◌≤◌, ◌++◌, List, length, drop, ap, sym, refl, ◌∙◌, subst, arith, Ok, Err, MatchResult, Result}
use Rattle.std.specs.List.{flat_map}
use Rattle.std.proofs.lemmas.Result.{err_from_is_err_and}
use Rattle.layout.specs.Leaf.{cell}
use Rattle.layout.specs.Faults.{Stops}
use Rattle.layout.specs.declared.fault.PageFault.TheVariants.{Damaged}
use Rattle.layout.proofs.Turns.{turn}
use Rattle.layout.proofs.cells.cells_end.Goals as goal

pub loop-i-init : goal.loop-i-init
loop-i-init c = (omega arith, c.requires, λ keys rest e s n. (e, refl))

pub returns-in_err-len-clause-bounds : goal.returns-in_err-len-clause-bounds
returns-in_err-len-clause-bounds c =
    let p = err_from_is_err_and c.from_residual.result c.from_residual.ensures.1 in
    let f = (c.in_err-len.ensures).0 in
    let w : Stops c.args.page.now (Damaged c.loop-i.end) = inr (c.loop-i.invariant.1, (c.in_err-len.ensures).1) in
    rw (p.1, p.2, f) w

pub returns-in_err-len-clause-cells : goal.returns-in_err-len-clause-cells
returns-in_err-len-clause-cells c = λ keys rest e s n.
    let t = turn c.args.page.now c.loop-i.end keys c.loop-i.i rest s (omega (arith, c.loop-i-test.true)) (c.loop-i.invariant.2 keys rest e s n).0 in
    absurd ((c.in_err-len.ensures).1 (length (Rattle.std.proofs.Common.get_or keys c.loop-i.i Rattle.std.proofs.Common.[])) t.whole)

pub loop-i-preserved : goal.loop-i-preserved
loop-i-preserved c =
    let w = c.in_ok-len.ensures in (
      omega (arith, c.loop-i.invariant.0),
      omega (arith, w.within),
      λ keys rest e s n.
          let h = c.loop-i.invariant.2 keys rest e s n in
          let t = turn c.args.page.now c.loop-i.end keys c.loop-i.i rest s (omega (arith, c.loop-i-test.true)) h.0 in
          let l = t.len c.in_ok-len.len w in
          (t.next c.in_ok-len.len w, omega (arith, h.1, t.rest, l)),
    )

pub returns-clause-bounds : goal.returns-clause-bounds
returns-clause-bounds c = (c.loop-i.invariant.0, c.loop-i.invariant.1)

pub returns-clause-cells : goal.returns-clause-cells
returns-clause-cells c = λ keys rest e s n.
    let h = c.loop-i.invariant.2 keys rest e s n in
    let none : drop c.loop-i.i keys ≡ Rattle.std.proofs.Common.[] = Rattle.std.proofs.lemmas.List.drop_all c.loop-i.i keys (omega (arith, c.loop-i-test.false)) in
    let q : c.loop-i.end ≡ c.args.at + length (flat_map cell keys) = omega (arith, h.1, ap (λ (l : List (List ℕ)). length (flat_map cell l)) none) in
    ap Ok q
