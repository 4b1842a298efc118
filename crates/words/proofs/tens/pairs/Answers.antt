use Rattle.std.proofs.Common.{◌+◌, ◌*◌, ◌/◌, length, vec_items, refl, ap, ◌∙◌, arith}
use Rattle.words.specs.Digits.{digit_of}
use Rattle.words.proofs.Pairs.{high_at, low_at}
use Rattle.words.proofs.Worths.{pair_more}
use Rattle.words.proofs.tens.pairs.Goals as goal

pub loop-high-preserved : goal.loop-high-preserved
loop-high-preserved c =
    let ds = c.args.digits.now in
    let cs = c.as_chunks.result.0.now in
    let k = length ds / 2 in
    let i = c.loop-high.high-index in
    let a = c.in_ok-high.high in
    let b = c.in_ok-low.low in
    let high = rw c.in_ok-high.ensures.ok_part at c.digit.ensures in
    let low = rw c.in_ok-low.ensures.ok_part at c.digit-in-loop-high.ensures in
    pair_more ds (vec_items c.loop-high.all) (vec_items c.push.new.self) i a b (a * 10 + b) (omega (arith, c.as_chunks.ensures.front_len))
    c.loop-high.invariant.0 c.loop-high.invariant.1 (high.1 ∙ ap digit_of (high_at cs k ds i _ c.as_chunks.ensures.front (omega arith)))
    (low.1 ∙ ap digit_of (low_at cs k ds i _ c.as_chunks.ensures.front (omega arith))) refl c.in_ok-push.ensures.items
