use Rattle.std.proofs.Common.{[], refl}
use Rattle.codes.specs.declared.unread.Unread.TheVariants.{NoCode}
use Rattle.codes.specs.Codes.{number_code}
use Rattle.codes.specs.Decimals.{Shaped}
use Rattle.codes.specs.Means.{number_of}
use Rattle.codes.specs.Reading.{Read}
use Rattle.codes.specs.Sources.{seen}
use Rattle.codes.proofs.Exits.{exit_same}
use Rattle.codes.proofs.code.number.DecimalColumnCode.read.Goals as goal

pub returns-in_err-read_decimal : goal.returns-in_err-read_decimal
returns-in_err-read_decimal c =
    exit_same (Read Shaped number_code (λ d _. number_of d) (λ _. []) (seen c.args.source) c.args._texts.now c.args._texts.now) c.from_residual.result (NoCode c.in_err-read_decimal.field-0.0) c.from_residual.ensures.1
    (c.in_err-read_decimal.ensures, refl)
