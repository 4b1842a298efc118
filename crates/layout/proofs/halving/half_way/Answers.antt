use Rattle.std.proofs.Common.{ℕ, ◌≤◌, subst, ◌≡◌, ◌+◌, ◌-◌, ◌<◌, ◌++◌, ◌∷◌, [], suc, length, take, drop, get_or, refl, sym, ◌∙◌, arith}
use Rattle.std.specs.List.{flat_map}
use Rattle.std.proofs.lemmas.Bool.{cases_order, le-leb, lt-leb}
use Rattle.std.proofs.lemmas.List.{length-take-le}
use Rattle.layout.specs.declared.cut.Cut.{Cut}
use Rattle.std.proofs.lemmas.Result.{err_from_is_err_and}
use Rattle.layout.specs.declared.fault.PageFault.TheVariants.{Damaged}
use Rattle.separators.specs.Halves.{Counted, split_point}
use Rattle.layout.specs.Pages.{zeros}
use Rattle.layout.specs.Leaf.{cell}
use Rattle.layout.proofs.Leaves.{leaf_head, leaf_cells, numbered}
use Rattle.layout.proofs.Turns.{turn}
use Rattle.layout.proofs.Halfway.{inside, overfull, sizes, sizes_sum, sizes_many, parted_at, size_new, own_few, next_new, this_size, next_own, own_half, new_half, never, side}
use Rattle.layout.proofs.halving.half_way.Goals as goal
use Rattle.layout.proofs.halving.half_way.Goals.{then-turn-place+in_ok-size, else-turn-place}

pub returns-in_err-number-clause-parted : goal.returns-in_err-number-clause-parted
returns-in_err-number-clause-parted c = λ a b lf p. absurd ((c.in_err-number.ensures).1 (length (a ++ b)) (leaf_head c.args.page.now (a ++ b) lf))

pub loop-turn-init : goal.loop-turn-init
loop-turn-init c = (
  omega arith,
  omega (arith, c.in_ok-end.ensures.bounds),
  omega arith,
  λ a b lf p.
      let page = c.args.page.now in
      let key = c.args.key.now in
      let n = numbered page (a ++ b) lf c.in_ok-number.number c.in_ok-number.ensures in
      let told = c.in_ok-end.ensures.cells (a ++ b) (zeros (length page) (flat_map cell (a ++ b))) (leaf_cells page (a ++ b) lf) lf.sized (sym n) in
      let q : c.in_ok-end.end ≡ 4 + length (flat_map cell (a ++ b)) = cc in
      let total = sizes_sum a b key in
      record {
        counted = c.new-half.ensures.start (sizes a b key) (omega (arith, total, q)) (omega (arith, q));
        here = leaf_cells page (a ++ b) lf;
        at_is = refl;
        before = λ l. refl;
        behind = λ l. absurd (omega arith);
      },
)

pub returns-in_err-size-clause-parted : goal.returns-in_err-size-clause-parted
returns-in_err-size-clause-parted c = λ a b lf p.
    let page = c.args.page.now in
    let key = c.args.key.now in
    let n = numbered page (a ++ b) lf c.in_ok-number.number c.in_ok-number.ensures in
    let t = c.loop-turn.invariant.3 a b lf p in
    let s = side c.loop-turn.turn (length a) (λ e. omega (arith, p.0, e, c.if-turn-place.true)) (cases_order c.loop-turn.turn (length a)) in
    let h : c.loop-turn.turn < length (sizes a b key) = omega (arith, sizes_many a b key, n, c.loop-turn-test.true) in
    let few = own_few a b key page c.loop-turn.turn c.loop-turn.index c.loop-turn.at c.loop-turn.half t s h in
    let u = turn page c.loop-turn.at (a ++ b) c.loop-turn.index (zeros (length page) (flat_map cell (a ++ b))) lf.sized few t.here in
    absurd ((c.in_err-size.ensures).1 (length (get_or (a ++ b) c.loop-turn.index [])) u.whole)

pub overflow_add-index : goal.overflow_add-index
overflow_add-index c = omega (arith, c.loop-turn.invariant.2, c.loop-turn-test.true, (c.in_ok-number.ensures).stated, c.type_inv.page 1)

pub returns-then-add-clause-parted : goal.returns-then-add-clause-parted
returns-then-add-clause-parted c = λ a b lf p.
    let page = c.args.page.now in
    let key = c.args.key.now in
    let i = c.loop-turn.turn in
    let n = numbered page (a ++ b) lf c.in_ok-number.number c.in_ok-number.ensures in
    let t = c.loop-turn.invariant.3 a b lf p in
    let h : i < length (sizes a b key) = omega (arith, sizes_many a b key, n, c.loop-turn-test.true) in
    let z = zeros (length page) (flat_map cell (a ++ b)) in
    let long = length-take-le i (sizes a b key) (omega arith) in
    let cut : Cut = record { index = c.if-turn-place.index; at = c.if-turn-place.at; stays = c.has_passed-stays.result } in
    elim c.if-turn-place.branch [
      | then-turn-place+in_ok-size w ↦
          let s = side i (length a) (λ e. omega (arith, p.0, e, w.if-turn-place.true)) (cases_order i (length a)) in
          let few = own_few a b key page i c.loop-turn.index c.loop-turn.at c.loop-turn.half t s h in
          let len = w.in_ok-size.field-0 in
          let u = turn page c.loop-turn.at (a ++ b) c.loop-turn.index z lf.sized few t.here in
          let size = this_size a b key page i c.loop-turn.index c.loop-turn.at c.loop-turn.half t len z u w.in_ok-size.ensures s h in
          let e = parted_at a b key i c.if-turn-place.size h (size ∙ sym w.size-is) in
          let r = c.if-add.ensures.reached (sizes a b key) (take i (sizes a b key)) (drop (suc i) (sizes a b key)) e t.counted in
          own_half a b key page i c.loop-turn.index c.loop-turn.at c.loop-turn.half t len z u w.in_ok-size.ensures (split_point (sizes a b key)) cut (omega (arith, r, long)) h w.index-is (omega (arith, w.at-is, w.size-is)) (λ l. c.has_passed-stays.ensures ∙ lt-leb c.args.place.index i (omega (arith, p.0))) (λ l. c.has_passed-stays.ensures ∙ le-leb c.args.place.index i (omega (arith, p.0))) s
      | else-turn-place w ↦
          let q : i ≡ length a = omega (arith, p.0, w.if-turn-place.false) in
          let e = parted_at a b key i c.if-turn-place.size h (size_new a b key i q ∙ sym w.size-is) in
          let r = c.if-add.ensures.reached (sizes a b key) (take i (sizes a b key)) (drop (suc i) (sizes a b key)) e t.counted in
          new_half a b key page i c.loop-turn.index c.loop-turn.at c.loop-turn.half t (split_point (sizes a b key)) cut (omega (arith, r, long)) q w.index-is w.at-is (c.has_passed-stays.ensures ∙ le-leb c.args.place.index i (omega (arith, p.0, q)))
    ]

pub loop-turn-preserved : goal.loop-turn-preserved
loop-turn-preserved c = (
  elim c.if-turn-place.branch [ then-turn-place+in_ok-size w ↦ omega (arith, w.at-is, c.loop-turn.invariant.0) | else-turn-place w ↦ omega (arith, w.at-is, c.loop-turn.invariant.0) ],
  elim c.if-turn-place.branch [ then-turn-place+in_ok-size w ↦ omega (arith, w.at-is, w.in_ok-size.ensures.within) | else-turn-place w ↦ omega (arith, w.at-is, c.loop-turn.invariant.1) ],
  elim c.if-turn-place.branch [ then-turn-place+in_ok-size w ↦ omega (arith, w.index-is, c.loop-turn.invariant.2) | else-turn-place w ↦ omega (arith, w.index-is, c.loop-turn.invariant.2) ],
  λ a b lf p.
      let page = c.args.page.now in
      let key = c.args.key.now in
      let i = c.loop-turn.turn in
      let n = numbered page (a ++ b) lf c.in_ok-number.number c.in_ok-number.ensures in
      let t = c.loop-turn.invariant.3 a b lf p in
      let h : i < length (sizes a b key) = omega (arith, sizes_many a b key, n, c.loop-turn-test.true) in
      let z = zeros (length page) (flat_map cell (a ++ b)) in
      let long = length-take-le i (sizes a b key) (omega arith) in
      elim c.if-turn-place.branch [
        | then-turn-place+in_ok-size w ↦
            let s = side i (length a) (λ e. omega (arith, p.0, e, w.if-turn-place.true)) (cases_order i (length a)) in
            let few = own_few a b key page i c.loop-turn.index c.loop-turn.at c.loop-turn.half t s h in
            let len = w.in_ok-size.field-0 in
            let u = turn page c.loop-turn.at (a ++ b) c.loop-turn.index z lf.sized few t.here in
            let size = this_size a b key page i c.loop-turn.index c.loop-turn.at c.loop-turn.half t len z u w.in_ok-size.ensures s h in
            let e = parted_at a b key i c.if-turn-place.size h (size ∙ sym w.size-is) in
            let k = c.if-add.ensures.short (sizes a b key) (take i (sizes a b key)) (drop (suc i) (sizes a b key)) e t.counted in
            let k2 = subst (λ m. Counted (sizes a b key) (take i (sizes a b key) ++ m ∷ []) c.add.new.self) w.size-is k in
            rw (w.index-is, w.at-is) (next_own a b key page i c.loop-turn.index c.loop-turn.at c.loop-turn.half t len z u w.in_ok-size.ensures c.add.new.self refl s h k2)
        | else-turn-place w ↦
            let q : i ≡ length a = omega (arith, p.0, w.if-turn-place.false) in
            let e = parted_at a b key i c.if-turn-place.size h (size_new a b key i q ∙ sym w.size-is) in
            let k = c.if-add.ensures.short (sizes a b key) (take i (sizes a b key)) (drop (suc i) (sizes a b key)) e t.counted in
            let k2 = subst (λ m. Counted (sizes a b key) (take i (sizes a b key) ++ m ∷ []) c.add.new.self) w.size-is k in
            rw (w.index-is, w.at-is) (next_new a b key page i c.loop-turn.index c.loop-turn.at c.loop-turn.half t c.add.new.self q k2)
      ],
)

pub returns-clause-parted : goal.returns-clause-parted
returns-clause-parted c = λ a b lf p.
    let page = c.args.page.now in
    let key = c.args.key.now in
    let n = numbered page (a ++ b) lf c.in_ok-number.number c.in_ok-number.ensures in
    let t = c.loop-turn.invariant.3 a b lf p in
    absurd (never a b key c.loop-turn.half c.loop-turn.turn (omega (arith, sizes_many a b key, n, c.loop-turn-test.false)) t.counted)

pub returns-then-add-clause-fits : goal.returns-then-add-clause-fits
returns-then-add-clause-fits c = λ a b lf s big much. c.new-half.ensures.halves (length c.args.page.now - 4) 121 (sizes a b c.args.key.now) (overfull a b c.args.key.now c.args.page.now lf s big much)

pub returns-in_err-number-clause-faults : goal.returns-in_err-number-clause-faults
returns-in_err-number-clause-faults c =
    let p = err_from_is_err_and c.from_residual.result c.from_residual.ensures.1 in
    let w : (at : ℕ) × (at ≤ length c.args.page.now) × (Damaged 0 ≡ Damaged at) = (0, omega arith, refl) in
    rw (p.1, p.2, (c.in_err-number.ensures).0) w

pub returns-in_err-end-clause-faults : goal.returns-in_err-end-clause-faults
returns-in_err-end-clause-faults c =
    let p = err_from_is_err_and c.from_residual-in_err-end.result c.from_residual-in_err-end.ensures.1 in
    rw (p.1, p.2) (inside c.args.page.now c.in_err-end.field-0.0 (c.in_err-end.ensures).bounds)

pub returns-in_err-size-clause-faults : goal.returns-in_err-size-clause-faults
returns-in_err-size-clause-faults c =
    let p = err_from_is_err_and c.from_residual-in_err-size.result c.from_residual-in_err-size.ensures.1 in
    let w : (at : ℕ) × (at ≤ length c.args.page.now) × (Damaged c.loop-turn.at ≡ Damaged at) = (c.loop-turn.at, c.loop-turn.invariant.1, refl) in
    rw (p.1, p.2, (c.in_err-size.ensures).0) w
