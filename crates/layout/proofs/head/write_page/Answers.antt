use Rattle.std.proofs.Common.{◌≡◌, ℕ, ◌+◌, ◌*◌, ◌/◌, ◌%◌, List, ◌∷◌, ◌++◌, length, get_or, ap, ◌∙◌, arith}
use Rattle.layout.specs.Pages.{zeros}
use Rattle.layout.proofs.Zeros.{zeros_behind, four_set}
use Rattle.layout.proofs.head.write_page.Goals as goal

pub returns : goal.returns
returns c =
    let len = length c.args.page.now in
    let cells = c.args.cells.now in
    let r = c.to_be_bytes-link.result in
    let first = c.split_at_mut-first in
    let full = c.split_at_mut-full in
    let a = c.args.kind * 64 + c.args.number / 256 in
    let b = c.args.number % 256 in
    let high : get_or r 0 0 ≡ c.args.link / 256 = ap (λ (l : List ℕ). get_or l 0 0) c.to_be_bytes-link.ensures ∙ omega arith in
    let low : get_or r 1 0 ≡ c.args.link % 256 = ap (λ (l : List ℕ). get_or l 1 0) c.to_be_bytes-link.ensures in
    let z : c.fill.new.self ≡ zeros len cells = c.fill.ensures.after (λ y q. q) ∙ zeros_behind len (length full.result.1.now) cells (omega (arith, full.ensures.back_len, first.ensures.back_len)) in
    let head = four_set first.result.0.now a b (get_or r 0 0) (get_or r 1 0) first.ensures.front_len in
    let tail = c.copy_from_slice.new.self ++ c.fill.new.self in
    ap (λ (l : List ℕ). l ++ tail) head
    ∙ ap (λ x. a ∷ b ∷ x ∷ get_or r 1 0 ∷ tail) high
    ∙ ap (λ x. a ∷ b ∷ c.args.link / 256 ∷ x ∷ tail) low
    ∙ ap (λ (l : List ℕ). a ∷ b ∷ c.args.link / 256 ∷ c.args.link % 256 ∷ (l ++ c.fill.new.self)) c.copy_from_slice.ensures.after
    ∙ ap (λ (l : List ℕ). a ∷ b ∷ c.args.link / 256 ∷ c.args.link % 256 ∷ (cells ++ l)) z
