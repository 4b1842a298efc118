use Rattle.std.proofs.Common.{arith, ap, ◌∙◌, ◌≡◌, ◌-◌, length}
use Rattle.std.proofs.Math.ListN.{replicate}
use Rattle.header.proofs.Packs.{page_of_halves}
use Rattle.header.proofs.fields.Fields.put.Goals as goal

pub returns : goal.returns
returns c =
    let n : length c.split_at_mut-fields.result.1.now ≡ length c.args.page.now - 18 = omega arith in
    let zeros = c.fill.ensures.after (λ _ e. e) ∙ ap (λ x. replicate x 0) n in
    page_of_halves c.args.self (length c.args.page.now) c.front.result c.rest.result c.copy_from_slice.new.self c.copy_from_slice-2.new.self c.fill.new.self
    c.front.ensures c.rest.ensures (omega arith) (c.copy_from_slice.ensures.after ∙ c.to_be_bytes.ensures) (c.copy_from_slice-2.ensures.after ∙ c.to_be_bytes-2.ensures) zeros
