use Rattle.std.proofs.Common.{◌≡◌, ℕ, ◌+◌, List, ◌∷◌, length, take, drop, sym, refl, ap, ◌∙◌, subst, arith, length-take}
use Rattle.std.proofs.lemmas.List.{take_at}
use Rattle.codes.specs.declared.unread.Unread.TheVariants.{NoCode}
use Rattle.codes.specs.Codes.{text_code}
use Rattle.codes.specs.Means.{text_of}
use Rattle.codes.specs.Reading.{Read, Starts, Stops}
use Rattle.codes.specs.Sources.{seen}
use Rattle.codes.specs.Values.{TextBytes}
use Rattle.codes.proofs.Dispatch.{text_cut, text_found}
use Rattle.codes.proofs.Exits.{exit_none}
use Rattle.codes.proofs.code.text.TextColumnCode.read.Goals as goal

pub returns-in_err-len : goal.returns-in_err-len
returns-in_err-len c =
    let b = seen c.in-Some-eq36-default.rest in
    let e = c.in-Some-eq36-default.ensures ∙ ap (λ z. z ∷ b) c.in-Some-eq36-default.field-0-0-test in
    let n = c.in_err-len.ensures.ok_part in
    exit_none (Read TextBytes text_code text_of (λ t. t) (seen c.args.source) c.args.texts.now c.args.texts.now) NoCode c.from_residual.result c.zero.result (record { at = c.len.result + 1 }) c.in_err-len.field-0.0
    c.from_residual.ensures.1 c.in_err-len.ensures.value n (
      subst (λ (z : List ℕ). Stops TextBytes text_code z (c.len.result + 1)) (sym e)
          (subst (λ (z : ℕ). Stops TextBytes text_code (0x24 ∷ b) (z + 1)) (sym c.len.ensures) (text_cut b (rw n at c.zero.ensures))),
      refl,
    )

pub returns-then-len-texts : goal.returns-then-len-texts
returns-then-len-texts c =
    let b = seen c.in-Some-eq36-default.rest in
    let e = c.in-Some-eq36-default.ensures ∙ ap (λ z. z ∷ b) c.in-Some-eq36-default.field-0-0-test in
    let i = c.in_ok-len.len in
    let h = rw c.in_ok-len.ensures.ok_part at c.zero.ensures in
    let l : length (take i b) ≡ i = simp length-take (omega (arith, h.0)) in
    ((take i b, i + 2, (subst (λ (z : List ℕ). Starts TextBytes text_code z (take i b) (i + 2)) (sym e) (text_found b i h.0 h.1 h.2), omega arith)), refl)

pub returns : goal.returns
returns c =
    let b = seen c.in-Some-eq36-default.rest in
    let e = c.in-Some-eq36-default.ensures ∙ ap (λ z. z ∷ b) c.in-Some-eq36-default.field-0-0-test in
    let i = c.in_ok-len.len in
    let h = rw c.in_ok-len.ensures.ok_part at c.zero.ensures in
    let l : length (take i b) ≡ i = simp length-take (omega (arith, h.0)) in
    let f = c.copy.ensures in
    let t : take i c.copy.new.out ≡ take i b = rw f (take_at (take i b) (drop i c.args.texts.now) i l) in
    rw t (subst (λ (z : List ℕ). Starts TextBytes text_code z (take i b) (i + 2)) (sym e) (text_found b i h.0 h.1 h.2), rw l f)
