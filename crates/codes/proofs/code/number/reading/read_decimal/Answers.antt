use Rattle.std.proofs.Common.{ℕ, List, sym, subst}
use Rattle.codes.specs.Codes.{number_code}
use Rattle.codes.specs.Decimals.{Shaped}
use Rattle.codes.specs.Leads.{DecimalRead}
use Rattle.codes.specs.Reading.{Stops}
use Rattle.codes.specs.Sources.{seen}
use Rattle.codes.proofs.Amounts.{number_none}
use Rattle.codes.proofs.Exits.{exit_none}
use Rattle.codes.proofs.code.number.reading.read_decimal.Goals as goal

pub returns-in_err-first : goal.returns-in_err-first
returns-in_err-first c =
    let n = c.in_err-first.ensures.ok_part in
    exit_none (DecimalRead (seen c.args.source)) (λ e. e) c.from_residual.result c.split.result (record { at = 0 }) c.in_err-first.field-0.0 c.from_residual.ensures.1 c.in_err-first.ensures.value n
    (subst (λ (b : List ℕ). Stops Shaped number_code b 0) (sym (rw n at c.split.ensures)) number_none)
