use Rattle.std.proofs.Common.{◌+◌, ◌-◌, ◌++◌, ◌∷◌, [], take, drop, refl, inl, inr, arith, length-append}
use Rattle.std.proofs.lemmas.Result.{err_from_is_err_and}
use Rattle.layout.specs.Checks.{Wrong, in_cell, in_order}
use Rattle.layout.proofs.Rises.{ends_below, not_below}
use Rattle.layout.proofs.Wrongs.{begin_none, begin_more, cell_there}
use Rattle.layout.proofs.checking.rising_end.Goals as goal

pub loop-index-init : goal.loop-index-init
loop-index-init c = ([], begin_none c.args.page.now, refl, refl, c.requires.long, inl (refl, refl))

pub returns-in_err-len : goal.returns-in_err-len
returns-in_err-len c =
    let p = err_from_is_err_and c.from_residual.result c.from_residual.ensures.1 in
    let f = (c.in_err-len.ensures).0 in
    let i = c.loop-index.invariant in
    let w : Wrong c.args.page.now c.loop-index.end = in_cell c.args.number i.0 c.requires i.1 (omega (arith, c.loop-index-test.true, i.2)) i.3 (c.in_err-len.ensures).1 in
    rw (p.1, p.2, f) w

pub returns-in_default : goal.returns-in_default
returns-in_default c =
    let page = c.args.page.now in
    let at = c.loop-index.end in
    let len = c.in_ok-len.len in
    let k = take (at + 1 + len - (at + 1)) (drop (at + 1) page) in
    let i = c.loop-index.invariant in
    let there = cell_there page at len k c.in_ok-len.ensures refl in
    in_order c.args.number i.0 c.loop-index.last.now k c.requires i.1 (omega (arith, c.loop-index-test.true, i.2)) i.3 i.5 there.1
    (not_below c.loop-index.last.now k c.compare.result c.compare.ensures.bytes c.in_default.not-Less)

pub loop-index-preserved : goal.loop-index-preserved
loop-index-preserved c =
    let page = c.args.page.now in
    let at = c.loop-index.end in
    let len = c.in_ok-len.len in
    let k = take (at + 1 + len - (at + 1)) (drop (at + 1) page) in
    let i = c.loop-index.invariant in
    let below = ends_below i.0 c.loop-index.last.now k i.1.rising i.5 (c.in-Less.ensures).bytes in
    let m = begin_more page i.0 at len k i.1 i.3 c.in_ok-len.ensures refl below in
    let w = c.in_ok-len.ensures in
    (i.0 ++ k ∷ [], m.0, omega (arith, i.2, length-append i.0 (k ∷ [])), m.1, omega (arith, w.within), inr (i.0, refl))
