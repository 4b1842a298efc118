use Rattle.std.proofs.Common.{◌++◌, length, refl, ap, ◌∙◌, arith, length-append}
use Rattle.std.specs.List.{flat_map}
use Rattle.std.proofs.lemmas.Grind.{flat_map-append}
use Rattle.layout.specs.Leaf.{cell}
use Rattle.layout.proofs.Edits.{one_more}
use Rattle.layout.proofs.Leaves.{leaf_few, leaf_inserted}
use Rattle.layout.proofs.leaf.insert_sized.Goals as goal
use Rattle.layout.proofs.leaf.insert_sized.Goals.{then-number-eq16383-via-then-number-eq16383, then-number-eq16383-via-else-number-eq16383+then-page-end}

pub returns-then-number-eq16383-clause-inserted : goal.returns-then-number-eq16383-clause-inserted
returns-then-number-eq16383-clause-inserted c = λ a b lf p room.
    let page = c.args.page.now in
    let told = c.in_ok-number.ensures.cells a b lf p in
    let more = one_more cell a b c.args.key.now in
    let both = ap length (flat_map-append cell a b) ∙ length-append (flat_map cell a) (flat_map cell b) in
    let few = leaf_few page (a ++ b) lf in
    let no : ⊥ = elim c.then-number-eq16383.branch [ then-number-eq16383-via-then-number-eq16383 w ↦ omega (arith, told.0) | then-number-eq16383-via-else-number-eq16383+then-page-end w ↦ omega (arith, p.1, told.1) ] in
    absurd no

pub returns-clause-inserted : goal.returns-clause-inserted
returns-clause-inserted c = λ a b lf p room.
    let page = c.args.page.now in
    let told = c.in_ok-number.ensures.cells a b lf p in (
      refl,
      leaf_inserted page c.open.new.page c.set_number.new.page a b c.args.key.now c.args.place.at c.in_ok-number.end c.in_ok-number.number lf (c.requires.low, c.requires.high) told.0 p.1 told.1 room c.open.ensures c.set_number.ensures,
    )
