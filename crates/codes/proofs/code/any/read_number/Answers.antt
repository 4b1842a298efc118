use Rattle.std.proofs.Common.{ℕ, List, sym, refl, subst}
use Rattle.codes.specs.declared.unread.Unread.TheVariants.{NoCode}
use Rattle.codes.specs.Codes.{datum_code, number_code}
use Rattle.codes.specs.Decimals.{Shaped}
use Rattle.codes.specs.Means.{datum_of}
use Rattle.codes.specs.Reading.{Read, Stops}
use Rattle.codes.specs.Sources.{seen}
use Rattle.codes.specs.Values.{Valid, spelled_in}
use Rattle.codes.proofs.Dispatch.{number_stops}
use Rattle.codes.proofs.Exits.{exit_same}
use Rattle.codes.proofs.code.any.read_number.Goals as goal

pub returns-in_err-decimal : goal.returns-in_err-decimal
returns-in_err-decimal c = λ x xs e no5 no24 lent.
    let b = seen c.args.source in
    let at = c.in_err-decimal.field-0.0.at in
    exit_same (Read Valid datum_code datum_of spelled_in b lent lent) c.from_residual.result (NoCode c.in_err-decimal.field-0.0) c.from_residual.ensures.1 (
      subst (λ (z : List ℕ). Stops Valid datum_code z at) (sym e)
          (number_stops x xs at no5 no24 (subst (λ (z : List ℕ). Stops Shaped number_code z at) e c.in_err-decimal.ensures)),
      refl,
    )
