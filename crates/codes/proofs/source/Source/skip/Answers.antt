use Rattle.std.proofs.Common.{refl}
use Rattle.codes.proofs.Seens.{skip_seen}
use Rattle.codes.proofs.source.Source.skip.Goals as goal

pub returns : goal.returns
returns c = skip_seen c.args.self.flipped c.args.self.bytes.now _ c.args.n c.min-start.result c.min-start.ensures refl
