use Rattle.std.proofs.Common.{◌≡◌, ℕ, ◌+◌, ◌*◌, ◌<◌, List, ◌++◌, Some, length, take, drop, get_or, ap, ◌∙◌, refl, subst, inr, arith}
use Rattle.std.proofs.lemmas.List.{take_rest}
use Rattle.layout.specs.Pages.{head, FirstNonzero}
use Rattle.layout.proofs.Zeros.{free_head, rest_zero}
use Rattle.layout.proofs.free.free_link.Goals as goal

pub returns-in-Some : goal.returns-in-Some
returns-in-Some c =
    let page = c.args.page.now in
    let n = get_or page 2 0 * 256 + get_or page 3 0 in
    let kind : get_or page 0 0 ≡ 192 = omega arith in
    let number : get_or page 1 0 ≡ 0 = omega arith in
    let e = free_head page n c.in-192.len_at_least kind number (omega (arith, c.type_inv.page 2)) (omega (arith, c.type_inv.page 3)) refl in
    inr ((n, ap (take 4) e), (c.in-Some.at, refl, subst (λ (l : List ℕ). FirstNonzero l (Some c.in-Some.at)) (take_rest page 4) c.in-Some.ensures))

pub returns-in-None : goal.returns-in-None
returns-in-None c =
    let page = c.args.page.now in
    let n = c.from_be_bytes.result in
    let kind : get_or page 0 0 ≡ 192 = omega arith in
    let number : get_or page 1 0 ≡ 0 = omega arith in
    let e = free_head page n c.in-192.len_at_least kind number (omega (arith, c.type_inv.page 2)) (omega (arith, c.type_inv.page 3)) c.from_be_bytes.ensures in
    let r = subst (λ (l : List ℕ). l ≡ Rattle.std.proofs.Common.replicate (length l) 0) (take_rest page 4) c.in-None.ensures in
    e ∙ ap (λ (l : List ℕ). head 3 0 n ++ l) (rest_zero page r)
