use Rattle.std.proofs.Common.{◌≡◌, ◌-◌, ◌++◌, [], List, ℕ, length, take, drop, refl, ap, sym, subst, ◌∙◌, arith, length-append}
use Rattle.std.proofs.lemmas.List.{append-nil}
use Rattle.layout.specs.Leaf.{Leaf}
use Rattle.layout.proofs.Edits.{renumbered}
use Rattle.layout.proofs.Leaves.{leaf_removed, leaf_written, leaf_part, sized_behind}
use Rattle.layout.proofs.leaf.split.Goals as goal

pub returns-clause-parted : goal.returns-clause-parted
returns-clause-parted c = λ a b lf p short room.
    let page = c.args.page.now in
    let told = c.in_ok-number.ensures.cells a b lf p in
    let part = leaf_part page a b c.args.place.at c.in_ok-number.end lf p.1 told.1 in
    let few : c.in_ok-number.number - c.args.place.index ≡ length b = omega (arith, told.0, p.0, length-append a b) in
    let whole : Leaf page (a ++ (b ++ [])) = subst (λ (ks : List (List ℕ)). Leaf page (a ++ ks)) (sym (append-nil b)) lf in
    let left = leaf_removed page c.close.new.page c.set_number.new.page a b [] c.args.place.at c.in_ok-number.end c.in_ok-number.end whole p.1 told.1 (omega arith) c.close.ensures
    (c.set_number.ensures ∙ ap (renumbered c.close.new.page) (p.0 ∙ sym (ap length (append-nil a)))) in (
      refl,
      subst (λ (ks : List (List ℕ)). Leaf c.set_number.new.page ks) (append-nil a) left,
      leaf_written c.args.right.now c.write_page.new.page (take (c.in_ok-number.end - c.args.place.at) (drop c.args.place.at page)) (c.in_ok-number.number - c.args.place.index) b short (sized_behind a b lf.sized) few part room c.write_page.ensures,
    )
