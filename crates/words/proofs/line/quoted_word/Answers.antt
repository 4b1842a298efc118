use Rattle.std.proofs.Common.{◌≡◌, ◌+◌, List, ℕ, [], ◌∷◌, length, take, Option, sym, refl, subst, arith}
use Rattle.std.specs.Borrow.{Bor}
use Rattle.std.specs.Option.{MatchOption}
use Rattle.std.proofs.lemmas.List.{nil_from_length}
use Rattle.words.proofs.Texts.{headed}
use Rattle.words.specs.Lines.{Free}
use Rattle.words.proofs.Fronts.{unclosed, unspaced}
use Rattle.words.proofs.Splits.{quoted_front}
use Rattle.words.proofs.line.quoted_word.Goals as goal
use Rattle.words.proofs.line.quoted_word.Goals.{in-empty, in-32}

pub returns : goal.returns
returns c =
    let t = c.cut_at.result.0.now in
    let close = c.in_ok-close.field-0.now in
    let P : Option (Bor (List ℕ)) → Type 0 = λ o. MatchOption o (close ≡ []) (λ next. close ≡ 32 ∷ next.now) in
    let ends : P c.if-branch-lt1.behind =
    elim c.if-branch-lt1.branch [ in-empty w ↦ subst P (sym w.behind-is) (nil_from_length close (omega arith)) | in-32 w ↦ subst P (sym w.behind-is) (sym (headed close 32 (omega arith) (omega arith))) ] in
    quoted_front c.args.bytes.now c.args.inner.now t close (take (length t + 2) c.args.bytes.now) c.if-branch-lt1.behind c.requires c.cut_at.ensures.before
    (rw c.in_ok-close.was at c.cut_at.ensures.parts) refl ends

pub returns-in_err-close : goal.returns-in_err-close
returns-in_err-close c =
    let whole = rw c.in_err-close.was at c.cut_at.ensures.parts in
    rw c.from_residual.ensures (unclosed c.args.bytes.now c.args.inner.now c.requires (subst (Free 34) (sym whole) c.cut_at.ensures.before))

pub returns-in_default : goal.returns-in_default
returns-in_default c =
    unspaced c.args.bytes.now c.args.inner.now c.cut_at.result.0.now c.in_ok-close.field-0.now c.requires c.cut_at.ensures.before
    (rw c.in_ok-close.was at c.cut_at.ensures.parts) (omega arith) (λ e. omega arith)
