use Rattle.std.proofs.Common.{not, sym, ap, ◌∙◌}
use Rattle.codes.specs.Sources.{seen_as}
use Rattle.codes.specs.Strings.{flipped}
use Rattle.codes.proofs.Seens.{turn_seen, back_seen}
use Rattle.codes.proofs.source.Source.turned.Goals as goal

pub returns : goal.returns
returns c =
    let f = c.args.self.flipped in
    let xs = c.args.self.bytes.now in
    let o = c.octets.ensures in record {
      turn = ap (seen_as (not f)) o.same ∙ turn_seen f xs o.each;
      back = back_seen f xs o.each ∙ ap (λ z. flipped (seen_as (not f) z)) (sym o.same);
    }
