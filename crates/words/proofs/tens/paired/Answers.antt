use Rattle.std.proofs.Common.{◌*◌, ◌/◌, ◌%◌, ◌++◌, length, take, replicate, vec_items, ap, ◌∙◌}
use Rattle.std.proofs.lemmas.Result.{IfOk-weaker}
use Rattle.words.specs.Digits.{written}
use Rattle.words.proofs.Worths.{padded_worth}
use Rattle.words.proofs.tens.paired.Goals as goal

pub returns : goal.returns
returns c =
    let same = c.as_slice.ensures.value in
    IfOk-weaker c.pairs.result _ _
    (λ v told. padded_worth c.args.digits.now (vec_items c.push_zeros.new.out) (vec_items c.extend_from_slice.new.self) (vec_items c.push_zeros-2.new.out) (vec_items v)
    c.args.front (c.len-behind.result % 2)
    (c.in_ok-push_zeros.ensures ∙ ap (λ l. l ++ replicate c.args.front 48) c.new-padded.ensures.items)
    c.in_ok-extend_from_slice.ensures.items
    (ap (λ k. k % 2) (c.len-behind.ensures ∙ c.extend_from_slice.new.self.ok.0))
    c.in_ok-push_zeros-2.ensures
    (told.0 ∙ ap (λ l. written (take (2 * (length l / 2)) l)) same)
    (told.1 ∙ ap (λ l. length l / 2) same)) c.pairs.ensures
