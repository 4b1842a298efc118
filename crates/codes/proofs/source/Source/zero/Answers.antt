use Rattle.std.proofs.Common.{◌≡◌, rules}
use Rattle.std.proofs.lemmas.Iterator.{YieldsList-from_slice, IsFirst-from_position}
use borrow.Author.Tests.{tests}
use Rattle.codes.specs.Sources.{see_as}
use Rattle.codes.proofs.Zeros.{first_zero}
use Rattle.codes.proofs.source.Source.zero.Goals as goal

pub returns : goal.returns
returns c =
    let f = c.args.self.flipped in
    let xs = c.args.self.bytes.now in
    first_zero f xs c.octets.ensures.each c.position.result
    (IsFirst-from_position _ _ c.position.result (λ b. see_as f b ≡ 0) (λ b. see_as f b ≡ 0 → ⊥) c.position.ensures.ran (YieldsList-from_slice xs cc)
    (λ x q k. search (rules, tests)) (λ x q k. search (rules, tests)))
