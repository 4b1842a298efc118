use Rattle.std.proofs.Common.{◌≡◌, ℕ, ◌+◌, List, length, drop, get_or, replicate, ap, sym, refl, subst, arith, Some}
use Rattle.std.proofs.lemmas.List.{take_rest}
use Rattle.std.proofs.lemmas.Result.{err_from_is_err_and}
use Rattle.layout.specs.Pages.{FirstNonzero}
use Rattle.layout.specs.Leaf.{LeafHead}
use Rattle.layout.specs.Checks.{Wrong, in_head, in_rest}
use Rattle.layout.proofs.Wrongs.{begin_all}
use Rattle.layout.proofs.checking.count_keys.Goals as goal

pub returns-in_err-number : goal.returns-in_err-number
returns-in_err-number c =
    let p = err_from_is_err_and c.from_residual.result c.from_residual.ensures.1 in
    let w : Wrong c.args.page.now 0 = in_head refl (c.in_err-number.ensures).1 in
    rw (p.1, p.2, (c.in_err-number.ensures).0) w

pub returns-in-Some : goal.returns-in-Some
returns-in-Some c =
    let page = c.args.page.now in
    let e = c.in_ok-end.ensures in
    let f = subst (λ (l : List ℕ). FirstNonzero l (Some c.in-Some.i)) (take_rest page c.in_ok-end.end) c.in-Some.ensures in
    in_rest e.0 c.in-Some.i (subst (λ (n : ℕ). LeafHead page n) (sym e.2) c.in_ok-number.ensures) e.1 (ap (λ n. n + c.in-Some.i) e.3) (subst (λ (n : ℕ). FirstNonzero (drop n page) (Some c.in-Some.i)) e.3 f)

pub returns-in-None : goal.returns-in-None
returns-in-None c =
    let page = c.args.page.now in
    let e = c.in_ok-end.ensures in
    let f = subst (λ (l : List ℕ). l ≡ replicate (length l) 0) (take_rest page c.in_ok-end.end) c.in-None.ensures in
    let z = subst (λ (n : ℕ). drop n page ≡ replicate (length (drop n page)) 0) e.3 f in
    let byte = c.type_inv.page 1 in
    let two : get_or page 2 0 ≡ 0 = omega arith in
    let three : get_or page 3 0 ≡ 0 = omega arith in
    (e.0, begin_all page e.0 (omega arith) (omega arith) two three (subst (λ (n : ℕ). LeafHead page n) (sym e.2) c.in_ok-number.ensures) e.1 z, e.1.rising, sym e.2)
