use Rattle.std.proofs.Common.{◌≡◌, rules}
use Rattle.std.proofs.lemmas.Iterator.{YieldsList-from_slice, IsFirst-from_position}
use borrow.Author.Tests.{tests}
use Rattle.layout.proofs.Zeros.{nonzero_first}
use Rattle.layout.proofs.bytes.nonzero.Goals as goal

pub returns : goal.returns
returns c =
    let xs = c.args.bytes.now in
    nonzero_first xs c.position.result
    (IsFirst-from_position _ _ c.position.result (λ b. b ≡ 0 → ⊥) (λ b. b ≡ 0) c.position.ensures.ran (YieldsList-from_slice xs cc) (λ x q k. search (rules, tests)) (λ x q k. search (rules, tests)))
