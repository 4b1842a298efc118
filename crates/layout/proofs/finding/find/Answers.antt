use Rattle.std.proofs.Common.{◌+◌, inr, inl, refl, take, drop, ◌-◌, ◌++◌, ◌≡◌, ℕ, ◌<◌, List, [], length, get_or, sym, subst, ◌∙◌, arith}
use Rattle.std.specs.List.{flat_map}
use Rattle.codes.specs.Strings.{Less}
use Rattle.layout.specs.Pages.{zeros}
use Rattle.layout.specs.Leaf.{cell}
use Rattle.std.proofs.lemmas.Result.{err_from_is_err_and}
use Rattle.layout.specs.Faults.{Stops}
use Rattle.layout.specs.declared.fault.PageFault.TheVariants.{Damaged}
use Rattle.layout.proofs.Wrongs.{cell_there}
use Rattle.layout.proofs.Turns.{turn}
use Rattle.layout.proofs.Leaves.{leaf_head, numbered}
use Rattle.layout.proofs.Finds.{passed_more, found_same, found_above}
use Rattle.layout.proofs.finding.find.Goals as goal

pub returns-in_err-number-clause-found : goal.returns-in_err-number-clause-found
returns-in_err-number-clause-found c = λ keys lf r. absurd ((c.in_err-number.ensures).1 (length keys) (leaf_head c.args.page.now keys lf))

pub returns-in_err-len-clause-found : goal.returns-in_err-len-clause-found
returns-in_err-len-clause-found c = λ keys lf r.
    let page = c.args.page.now in
    let n = numbered page keys lf c.in_ok-number.number c.in_ok-number.ensures in
    let p = c.loop-index.invariant.2 keys lf in
    let t = turn page c.loop-index.at keys c.loop-index.index (zeros (length page) (flat_map cell keys)) lf.sized (omega (arith, c.loop-index-test.true)) p.here in
    absurd ((c.in_err-len.ensures).1 (length (get_or keys c.loop-index.index [])) t.whole)

pub returns-in-Equal-clause-found : goal.returns-in-Equal-clause-found
returns-in-Equal-clause-found c = λ keys lf r.
    let page = c.args.page.now in
    let n = numbered page keys lf c.in_ok-number.number c.in_ok-number.ensures in
    let h : c.loop-index.index < length keys = omega (arith, c.loop-index-test.true) in
    let p = c.loop-index.invariant.2 keys lf in
    let t = turn page c.loop-index.at keys c.loop-index.index (zeros (length page) (flat_map cell keys)) lf.sized h p.here in
    found_same page c.args.key.now keys c.loop-index.index c.loop-index.at h r p (sym (t.key c.in_ok-len.len c.in_ok-len.ensures) ∙ (c.in-Equal.ensures).bytes)

pub returns-in-Greater-clause-found : goal.returns-in-Greater-clause-found
returns-in-Greater-clause-found c = λ keys lf r.
    let page = c.args.page.now in
    let key = c.args.key.now in
    let n = numbered page keys lf c.in_ok-number.number c.in_ok-number.ensures in
    let h : c.loop-index.index < length keys = omega (arith, c.loop-index-test.true) in
    let p = c.loop-index.invariant.2 keys lf in
    let t = turn page c.loop-index.at keys c.loop-index.index (zeros (length page) (flat_map cell keys)) lf.sized h p.here in
    found_above page key keys c.loop-index.index c.loop-index.at h r p (subst (λ (x : List ℕ). Less key x) (t.key c.in_ok-len.len c.in_ok-len.ensures) (c.in-Greater.ensures).bytes)

pub loop-index-preserved : goal.loop-index-preserved
loop-index-preserved c =
    let w = c.in_ok-len.ensures in (
      omega (arith, c.loop-index.invariant.0),
      omega (arith, w.within),
      λ keys lf.
          let page = c.args.page.now in
          let key = c.args.key.now in
          let n = numbered page keys lf c.in_ok-number.number c.in_ok-number.ensures in
          let h : c.loop-index.index < length keys = omega (arith, c.loop-index-test.true) in
          let p = c.loop-index.invariant.2 keys lf in
          let t = turn page c.loop-index.at keys c.loop-index.index (zeros (length page) (flat_map cell keys)) lf.sized h p.here in
          passed_more page key keys c.loop-index.index c.loop-index.at c.in_ok-len.len h p t w
          (subst (λ (x : List ℕ). Less x key) (t.key c.in_ok-len.len w) (c.in-Less.ensures).bytes),
    )

pub returns-in_err-number-clause-bounds : goal.returns-in_err-number-clause-bounds
returns-in_err-number-clause-bounds c =
    let p = err_from_is_err_and c.from_residual.result c.from_residual.ensures.1 in
    let w : Stops c.args.page.now (Damaged 0) = inl (refl, (c.in_err-number.ensures).1) in
    rw (p.1, p.2, (c.in_err-number.ensures).0) w

pub returns-in_err-len-clause-bounds : goal.returns-in_err-len-clause-bounds
returns-in_err-len-clause-bounds c =
    let r = c.from_residual-in_err-len in
    let p = err_from_is_err_and r.result r.ensures.1 in
    let w : Stops c.args.page.now (Damaged c.loop-index.at) = inr (c.loop-index.invariant.1, (c.in_err-len.ensures).1) in
    rw (p.1, p.2, (c.in_err-len.ensures).0) w

pub returns-in-Equal-clause-own : goal.returns-in-Equal-clause-own
returns-in-Equal-clause-own c = λ _.
    let page = c.args.page.now in
    let at = c.loop-index.at in
    let k = take (at + 1 + c.in_ok-len.len - (at + 1)) (drop (at + 1) page) in
    let there = (cell_there page at c.in_ok-len.len k c.in_ok-len.ensures refl).1 in
    subst (λ (x : List ℕ). drop at page ≡ cell x ++ drop (at + (1 + length x)) page) (c.in-Equal.ensures).bytes there
