use Rattle.std.proofs.Common.{◌≡◌, rules, ℕ}
use Rattle.std.proofs.lemmas.Iterator.Adapters.{items_from_extend, YieldsList-from_repeat_n}
use Rattle.words.proofs.digits.push_zeros.Goals as goal

pub returns : goal.returns
returns c =
    let h = items_from_extend c.extend.result c.extend.ensures.ran (YieldsList-from_repeat_n (λ (x y : ℕ). y ≡ x) c.args.count 48 c.repeat_n.ensures.count c.repeat_n.ensures.item (λ y k. k)) in search rules
