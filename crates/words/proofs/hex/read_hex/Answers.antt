use Rattle.std.proofs.Common.{◌≡◌, ◌+◌, ◌*◌, ◌/◌, length, get_or, vec_items, None, sym, ◌∙◌, arith}
use Rattle.std.proofs.lemmas.Result.{err_from_is_err_and}
use Rattle.words.specs.Hex.{NoPair}
use Rattle.words.proofs.Pairs.{added_more, high_at, low_at, no_pair, odd_length}
use Rattle.words.proofs.hex.read_hex.Goals as goal

pub loop-high-preserved : goal.loop-high-preserved
loop-high-preserved c =
    let w = c.args.word.now in
    let i = c.loop-high.high-index in
    let chunks = c.as_chunks.ensures in
    let told = rw c.in_ok-ok_or.ensures.ok_part at c.hex_pair.ensures in
    added_more w (vec_items c.args.out.now) (vec_items c.loop-high.out) (vec_items c.push.new.self) i c.in_ok-ok_or.field-0 c.in_ok-push.ensures.items (omega arith)
    told.0 (told.1 ∙ high_at c.as_chunks.result.0.now (length w / 2) w i _ chunks.front (omega arith)) (told.2 ∙ low_at c.as_chunks.result.0.now (length w / 2) w i _ chunks.front (omega arith))
    c.loop-high.invariant

pub returns-in_default : goal.returns-in_default
returns-in_default c = λ _. odd_length c.args.word.now (omega (arith, c.as_chunks.ensures.back_len))

pub returns-in_err-ok_or : goal.returns-in_err-ok_or
returns-in_err-ok_or c =
    let w = c.args.word.now in
    let i = c.loop-high.high-index in
    let chunks = c.as_chunks.ensures in
    let missing : c.hex_pair.result ≡ None = grind (arith, c.in_err-ok_or.ensures.value) in
    let told = rw missing at c.hex_pair.ensures in
    let pair : NoPair (get_or w (2 * i) 0) (get_or w (2 * i + 1) 0) =
    λ b p. told b (p.0, p.1 ∙ sym (high_at c.as_chunks.result.0.now (length w / 2) w i _ chunks.front (omega arith)), p.2 ∙ sym (low_at c.as_chunks.result.0.now (length w / 2) w i _ chunks.front (omega arith))) in
    let p = err_from_is_err_and c.from_residual.result c.from_residual.ensures.1 in rw p.1 (λ _. no_pair w i (omega (arith, chunks.front_len)) pair)
