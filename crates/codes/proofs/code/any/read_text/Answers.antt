use Rattle.codes.specs.Codes.{datum_code}
use Rattle.codes.specs.Means.{datum_of}
use Rattle.codes.specs.Reading.{Read}
use Rattle.codes.specs.Sources.{seen}
use Rattle.codes.specs.Values.{Valid, spelled_in}
use Rattle.codes.proofs.Dispatch.{text_err}
use Rattle.codes.proofs.Exits.{exit_same}
use Rattle.codes.proofs.code.any.read_text.Goals as goal

pub returns-in_err-text : goal.returns-in_err-text
returns-in_err-text c = λ xs e.
    let b = seen c.args.source in
    exit_same (Read Valid datum_code datum_of spelled_in b c.args.texts.now c.read.new.texts) c.from_residual.result c.in_err-text.field-0.0 c.from_residual.ensures.1
    (text_err b c.args.texts.now c.read.new.texts c.in_err-text.field-0.0 xs e c.in_err-text.ensures)
