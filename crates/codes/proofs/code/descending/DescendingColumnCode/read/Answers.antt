use Rattle.codes.specs.declared.code.descending.Descending.{Descending}
use Rattle.codes.specs.Strings.{flipped}
use Rattle.codes.specs.Reading.{Read}
use Rattle.codes.specs.Sources.{seen}
use Rattle.codes.proofs.Exits.{exit_same}
use Rattle.codes.proofs.Readings.{flip_unread}
use Rattle.codes.proofs.code.descending.DescendingColumnCode.read.Goals as goal

pub returns-in_err-value : goal.returns-in_err-value
returns-in_err-value g c =
    let v = g.V.ColumnCode in
    let d = c.in_err-value.field-0.0 in
    exit_same (Read v.Coded (λ m. flipped (v.bytes m)) (λ d. v.means d.0) v.spelled (seen c.args.source) c.args.texts.now c.read.new.texts) c.from_residual.result d c.from_residual.ensures.1
    (flip_unread {W = Descending g.row.V.Denot} v.Coded v.bytes g.met.V.ColumnCode.lawful.within v.means (λ d. v.means d.0) v.spelled (seen c.turned.result) (seen c.args.source) c.args.texts.now c.read.new.texts
    c.turned.ensures.back c.turned.ensures.turn d c.in_err-value.ensures)
