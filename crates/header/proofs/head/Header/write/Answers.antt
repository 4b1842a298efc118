use Rattle.std.proofs.Common.{arith, ap, ◌∙◌, length}
use Rattle.header.specs.Headers.{packed_page}
use Rattle.header.proofs.head.Header.write.Goals as goal

pub returns : goal.returns
returns c = (omega arith, c.put.ensures ∙ ap (packed_page (length c.args.page.now)) c.fields.ensures.told, c.fields.ensures.within)
