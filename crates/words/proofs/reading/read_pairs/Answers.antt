use Rattle.std.proofs.Common.{◌/◌, length, vec_items, sym, refl, ◌∙◌}
use Rattle.words.proofs.Texts.{tilded_writes}
use Rattle.words.proofs.reading.read_pairs.Goals as goal

pub returns : goal.returns
returns c = (
  tilded_writes c.args.pairs.now (vec_items c.args.texts.now) (vec_items c.read_hex.new.out) c.len-start.result (length c.args.pairs.now / 2)
      (sym (c.len-start.ensures ∙ c.args.texts.now.ok.0)) refl c.in_ok-read_hex.ensures,
  tt,
)
