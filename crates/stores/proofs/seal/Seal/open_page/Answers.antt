use Rattle.std.proofs.Common.{arith}
use Rattle.stores.specs.Opens.{openings}
use Rattle.stores.proofs.seal.Seal.open_page.Goals as goal

pub returns : goal.returns
returns g c =
    let sized = g.met.S.PageStore.sized c.args.self.now.lower c.args.p in
    grind (arith, openings)
