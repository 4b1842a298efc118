use Rattle.std.proofs.Common.{◌≡◌, ◌-◌, ◌++◌, take, drop, sym, ap, ◌∙◌, arith}
use Rattle.codes.specs.Sources.{seen}
use Rattle.codes.proofs.Seens.{take_seen}
use Rattle.codes.proofs.source.Source.copy.Goals as goal

pub returns : goal.returns
returns c =
    let n = c.args.n in
    let f = c.args.self.flipped in
    let z : n - 0 ≡ n = omega arith in
    let e : c.copy_seen.new.out ≡ take n (seen c.args.self) = rw z at c.copy_seen.ensures ∙ sym (take_seen f n c.args.self.bytes.now) in
    rw z (ap (λ w. w ++ drop n c.args.out.now) e)
