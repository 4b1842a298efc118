use Rattle.std.proofs.Common.{ltb, ◌∙◌, rules}
use Rattle.std.proofs.lemmas.Iterator.{YieldsList-from_slice}
use Rattle.std.proofs.lemmas.Iterator.Search.{all_from_yields_List}
use borrow.Author.Tests.{tests}
use Rattle.codes.proofs.Plains.{centimal_each}
use Rattle.codes.proofs.decimal.digits.are_centimal.Goals as goal

pub returns : goal.returns
returns c =
    all_from_yields_List (λ d. ltb d 100) _ _ c.all.result c.all.ensures.ran (YieldsList-from_slice c.args.digits.now cc) (λ x b q k. search (rules, tests)) ∙ centimal_each c.args.digits.now
