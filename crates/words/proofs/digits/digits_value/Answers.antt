use Rattle.std.proofs.Common.{◌≡◌, ◌&&◌, take, ap, ◌∙◌, arith}
use Rattle.std.proofs.lemmas.List.{take_all, length-take-le}
use Rattle.std.proofs.lemmas.List.Folds.{list_all_more}
use Rattle.std.specs.Char.{is_ascii_digit}
use Rattle.words.specs.Digits.{written}
use Rattle.words.proofs.Tenfold.{written_lt, written_more}
use Rattle.words.proofs.digits.digits_value.Goals as goal

pub overflow_mul-n : goal.overflow_mul-n
overflow_mul-n c =
    let ds = c.args.word.now in
    let i = c.loop-b.b-index in
    let h = written_lt (take i ds) 8 (omega (arith, length-take-le i ds (omega arith))) in
    omega (arith, h, c.loop-b.invariant)

pub overflow_add-n : goal.overflow_add-n
overflow_add-n c =
    let ds = c.args.word.now in
    let i = c.loop-b.b-index in
    let h = written_lt (take i ds) 8 (omega (arith, length-take-le i ds (omega arith))) in
    omega (arith, h, c.loop-b.invariant, c.in_ok-digit.ensures, c.from.ensures)

pub loop-b-preserved : goal.loop-b-preserved
loop-b-preserved c =
    let ds = c.args.word.now in
    let i = c.loop-b.b-index in
    let told = c.in_ok-digit.ensures in (
      list_all_more is_ascii_digit ds i 0 c.loop-b-test.true ∙ (λ t. c.loop-b.invariant.0 t && told.0 t),
      omega (arith, written_more ds i c.loop-b-test.true, c.loop-b.invariant, c.in_ok-digit.ensures, c.from.ensures),
    )

pub returns-clause-bound : goal.returns-clause-bound
returns-clause-bound c =
    let ds = c.args.word.now in
    let whole : take c.loop-b.b-index ds ≡ ds = take_all c.loop-b.b-index ds c.loop-b-test.false in
    omega (arith, c.loop-b.invariant, ap written whole, written_lt ds c.args.most (omega arith))
