use Rattle.std.proofs.Common.{◌+◌, Ok, Err}
use Rattle.codes.proofs.Exits.{exit_same}
use Rattle.keys.specs.Reading.{FoundAt}
use Rattle.keys.proofs.Places.{back, column_stops, found, no_key, rest_read, walk_stops, whole}
use Rattle.keys.proofs.key_reader.KeyReader.read_at.Goals as goal

pub returns-in_err-before : goal.returns-in_err-before
returns-in_err-before c =
    let cs = c.args.directions.now in
    let from = c.args.self in
    let stop = c.in_err-before.field-0.0 in
    exit_same (FoundAt cs from.rest.now c.args.wanted c.args.texts.now) c.from_residual.result stop c.from_residual.ensures.1
    (no_key cs from stop c.requires.front (walk_stops cs c.args.wanted from stop c.in_err-before.ensures))

pub returns-in_err-value : goal.returns-in_err-value
returns-in_err-value c =
    let cs = c.args.directions.now in
    let from = c.args.self in
    let stop = c.in_err-value.field-0.0 in
    let before = c.in_ok-before in
    exit_same (FoundAt cs from.rest.now c.args.wanted c.column.new.texts) c.from_residual-in_err-value.result stop c.from_residual-in_err-value.ensures.1
    (no_key cs from stop c.requires.front (column_stops cs c.args.wanted c.requires.column from before.before c.column.new.texts before.ensures stop c.in_err-value.ensures))

pub returns-in_err-walk : goal.returns-in_err-walk
returns-in_err-walk c =
    let cs = c.args.directions.now in
    let w = c.args.wanted in
    let from = c.args.self in
    let stop = c.in_err-walk.field-0.0 in
    let before = c.in_ok-before in
    let read = c.in_ok-value in
    exit_same (FoundAt cs from.rest.now w c.column.new.texts) c.from_residual-in_err-walk.result stop c.from_residual-in_err-walk.ensures.1
    (no_key cs from stop c.requires.front
    (rest_read cs w c.requires.column from before.before c.column.new.texts before.ensures (read.value, read.behind) read.ensures (Err stop) (back cs (w + 1) read.behind (Err stop) c.in_err-walk.ensures)))

pub returns-in_err-end : goal.returns-in_err-end
returns-in_err-end c =
    let cs = c.args.directions.now in
    let w = c.args.wanted in
    let from = c.args.self in
    let stop = c.in_err-end.field-0.0 in
    let before = c.in_ok-before in
    let read = c.in_ok-value in
    let last = c.in_ok-walk.field-0 in
    exit_same (FoundAt cs from.rest.now w c.column.new.texts) c.from_residual-in_err-end.result stop c.from_residual-in_err-end.ensures.1
    (whole cs from last (Err stop) c.requires.front
    (rest_read cs w c.requires.column from before.before c.column.new.texts before.ensures (read.value, read.behind) read.ensures (Ok last) (back cs (w + 1) read.behind (Ok last) c.in_ok-walk.ensures)) c.in_err-end.ensures)

pub returns : goal.returns
returns c =
    let cs = c.args.directions.now in
    let w = c.args.wanted in
    let before = c.in_ok-before in
    let read = c.in_ok-value in
    let last = c.in_ok-walk.field-0 in
    found cs w c.requires.column c.args.self before.before c.column.new.texts before.ensures (read.value, read.behind) read.ensures last (back cs (w + 1) read.behind (Ok last) c.in_ok-walk.ensures) c.in_ok-end.ensures
