use Rattle.codes.proofs.Exits.{exit_same}
use Rattle.keys.specs.Reading.{Whole}
use Rattle.keys.proofs.Places.{no_key, whole}
use Rattle.keys.proofs.key_reader.KeyReader.check.Goals as goal

pub returns-in_err-walk : goal.returns-in_err-walk
returns-in_err-walk c =
    let stop = c.in_err-walk.field-0.0 in
    exit_same (Whole c.args.directions.now c.args.self.rest.now) c.from_residual.result stop c.from_residual.ensures.1
    (no_key c.args.directions.now c.args.self stop c.requires c.in_err-walk.ensures)

pub returns : goal.returns
returns c = whole c.args.directions.now c.args.self c.in_ok-walk.field-0 c.end.result c.requires c.in_ok-walk.ensures c.end.ensures
