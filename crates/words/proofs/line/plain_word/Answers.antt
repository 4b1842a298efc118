use Rattle.std.proofs.Common.{◌≡◌, length, sym, ◌∙◌, rules, arith}
use Rattle.words.proofs.Fronts.{held, stopped, unplain}
use Rattle.words.proofs.line.plain_word.Goals as goal
use Rattle.words.proofs.line.plain_word.Goals.{then-is_empty-via-then-is_empty, then-is_empty-via-else-is_empty+then-contains}

pub returns-then-is_empty : goal.returns-then-is_empty
returns-then-is_empty c =
    let p = c.cut_at.result.0.now in
    let s = stopped c.args.bytes.now p c.cut_at.result.1 c.cut_at.ensures.parts in
    unplain c.args.bytes.now p s.0 c.requires c.cut_at.ensures.before s.1 s.2
    (λ plain. elim c.then-is_empty.branch [
      | then-is_empty-via-then-is_empty w ↦ let none : length p ≡ 0 = search rules in omega (arith, plain.0)
      | then-is_empty-via-else-is_empty+then-contains w ↦ held 34 p (sym w.contains.ensures.value ∙ w.if-contains.true) plain.2
    ])
