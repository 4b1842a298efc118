use Rattle.std.proofs.Common.{◌≡◌, ◌+◌, length, ap, sym, refl, ◌∙◌, arith}
use Rattle.std.proofs.lemmas.Result.{err_from_is_err_and}
use Rattle.std.proofs.lemmas.List.Sums.{sum_by_more}
use Rattle.std.proofs.ByRecursion.{All-more}
use Rattle.codes.specs.declared.fault.KeyFault.TheVariants.{ZeroByte}
use Rattle.codes.specs.Codes.{datum_code}
use Rattle.codes.specs.Values.{null, Valid}
use Rattle.keys.specs.Means.{data_of}
use Rattle.keys.proofs.Columns.{column_at, zero_at}
use Rattle.keys.proofs.key.values_len.Goals as goal

pub returns-in_err-len-clause-answer : goal.returns-in_err-len-clause-answer
returns-in_err-len-clause-answer c =
    let r = data_of c.args.row in
    let i = c.loop-i.i in
    let at = column_at c.args.row i c.value-item.result c.value-item.is c.loop-i-test.true in
    let p = err_from_is_err_and c.from_residual.result c.from_residual.ensures.1 in
    let none = c.in_err-len.ensures.ok_part in
    let f : c.in_err-len.field-0.0 ≡ ZeroByte (i + 1) = let v = rw none at c.in_err-len.ensures.value in cc in
    let z = zero_at r i _ at.0 at.1 in
    let dirty = rw none at c.size.ensures in
    rw (p.1, p.2, f, sym c.loop-i.invariant.0, z, dirty) refl

pub loop-i-preserved : goal.loop-i-preserved
loop-i-preserved c =
    let r = data_of c.args.row in
    let i = c.loop-i.i in
    let at = column_at c.args.row i c.value-item.result c.value-item.is c.loop-i-test.true in
    let m = rw c.in_ok-len.ensures.ok_part at c.size.ensures in
    let z = zero_at r i _ at.0 at.1 in (
      sym (rw m.0 at z) ∙ c.loop-i.invariant.0,
      All-more Valid r i null at.0 c.loop-i.invariant.1 (rw at.1 m.1),
      omega (arith, c.saturating_add-size.ensures, c.loop-i.invariant.2, m.2, sum_by_more (λ d. length (datum_code d)) r i null at.0, ap (λ d. length (datum_code d)) at.1),
    )
