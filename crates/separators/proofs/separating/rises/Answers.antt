use Rattle.std.proofs.Common.{arith}
use Rattle.separators.proofs.Looks.{look, told}
use Rattle.separators.proofs.separating.rises.Goals as goal

pub returns : goal.returns
returns c =
    let n = c.args.common in
    let a = c.args.left.now in
    let b = c.args.right.now in
    let h = c.get.ensures.lookup in
    let g = c.get-2.ensures.lookup in
    let t = told a b n c.get.result c.get-2.result c.lt.result c.requires (look _ a n c.get.result h.3 (h.4 (omega arith))) (look _ b n c.get-2.result g.3 (g.4 (omega arith))) c.lt.ensures in
    record { order = t.order; shortest = t.shortest; between = t.between }
