use Rattle.codes.proofs.Exits.{exit_same}
use Rattle.keys.specs.Reading.{Walked}
use Rattle.keys.proofs.Places.{column_read, column_stops}
use Rattle.keys.proofs.key_reader.KeyReader.walk.Goals as goal

pub returns-in_err-reader : goal.returns-in_err-reader
returns-in_err-reader c =
    let stop = c.in_err-reader.field-0.0 in
    let loop = c.loop-direction in
    exit_same (Walked c.args.directions.now c.args.self) c.from_residual.result stop c.from_residual.ensures.1
    (column_stops c.args.directions.now loop.direction-index c.loop-direction-test.true c.args.self loop.reader c.column.new.texts loop.invariant stop c.in_err-reader.ensures)

pub loop-direction-preserved : goal.loop-direction-preserved
loop-direction-preserved c =
    let loop = c.loop-direction in
    column_read c.args.directions.now loop.direction-index c.loop-direction-test.true c.args.self loop.reader c.column.new.texts loop.invariant (c.in_ok-reader.field-0-0, c.in_ok-reader.field-0-1) c.in_ok-reader.ensures
