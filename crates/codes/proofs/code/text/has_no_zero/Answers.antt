use Rattle.std.proofs.Common.{not, eqb, ◌∙◌, rules}
use Rattle.std.proofs.lemmas.Iterator.{YieldsList-from_slice}
use Rattle.std.proofs.lemmas.Iterator.Search.{all_from_yields_List}
use borrow.Author.Tests.{tests}
use Rattle.codes.proofs.Zeros.{no_zero_all}
use Rattle.codes.proofs.code.text.has_no_zero.Goals as goal

pub returns-clause-test : goal.returns-clause-test
returns-clause-test c =
    all_from_yields_List (λ b. not (eqb b 0)) _ _ c.all.result c.all.ensures.ran (YieldsList-from_slice c.args.bytes.now cc) (λ x b q k. search (rules, tests)) ∙ no_zero_all c.args.bytes.now
