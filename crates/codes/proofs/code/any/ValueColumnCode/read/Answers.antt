use Rattle.std.proofs.Common.{ℕ, List, sym, refl, subst}
use Rattle.codes.specs.declared.unread.Unread.TheVariants.{NoCode}
use Rattle.codes.specs.Codes.{datum_code}
use Rattle.codes.specs.Means.{datum_of}
use Rattle.codes.specs.Reading.{Read, Stops}
use Rattle.codes.specs.Sources.{seen}
use Rattle.codes.specs.Values.{Valid, spelled_in}
use Rattle.codes.proofs.Dispatch.{datum_none, own_byte}
use Rattle.codes.proofs.Exits.{exit_none}
use Rattle.codes.proofs.code.any.ValueColumnCode.read.Goals as goal

pub returns-in_err-first : goal.returns-in_err-first
returns-in_err-first c =
    let n = c.in_err-first.ensures.ok_part in
    exit_none (Read Valid datum_code datum_of spelled_in (seen c.args.source) c.args.texts.now c.args.texts.now) NoCode c.from_residual.result c.split.result (record { at = 0 }) c.in_err-first.field-0.0
    c.from_residual.ensures.1 c.in_err-first.ensures.value n
    (subst (λ (b : List ℕ). Stops Valid datum_code b 0) (sym (rw n at c.split.ensures)) datum_none, refl)

pub returns-in_default : goal.returns-in_default
returns-in_default c =
    let front = rw c.in_ok-first.ensures.ok_part at c.split.ensures in
    let o = own_byte c.class_of.result c.in_ok-first.first c.class_of.ensures in
    c.read_number.ensures c.in_ok-first.first (seen c.in_ok-first.field-0-1) front (o.0 c.in_default.not-Null) (o.1 c.in_default.not-Text) c.args.texts.now
