use Rattle.std.proofs.Common.{◌≡◌, ◌-◌, length, take, drop, ap, arith, length-append, length-drop, length-take, rules}
use Rattle.std.proofs.lemmas.Slice.Zip.{zip_turn}
use Rattle.keys.specs.declared.direction.Direction.TheVariants.{Ascending}
use Rattle.codes.specs.Means.{datum_of}
use Rattle.keys.specs.Means.{data_of}
use Rattle.keys.specs.Records.{code_in, key}
use Rattle.keys.proofs.Columns.{column_at, key_next, put_fits, put_next, room}
use Rattle.keys.proofs.key.put_columns.Goals as goal

pub unwrap-at-requires : goal.unwrap-at-requires
unwrap-at-requires c =
    let cs = c.args.directions.now in
    let loop = c.loop-direction in
    let i = length loop.yielded in
    let turn = zip_turn cs c.args.row.values.now loop.yielded c.into_iter-direction-iterator.result loop.direction-iterator c.next.new.self c.next.result (search rules) (search rules) loop.yielded_by (c.in-Some.direction, c.in-Some.value) c.in-Some.is c.next.ensures.steps in
    let at = column_at c.args.row i c.in-Some.value.now (turn.3 c.in-Some.value.now) turn.1 in
    let fits = room cs (data_of c.args.row) i c.in-Some.direction.now _ turn.0 c.requires.columns.0 (turn.2 Ascending) at.1 in
    let long : length (take (length loop.out - loop.at) (drop loop.at loop.out)) ≡ length loop.out - loop.at = simp (length-take, length-drop) (omega arith) in
    put_fits _ _ _ c.put.result c.put.ensures (omega (arith, fits, long, c.requires.room, loop.auto.out, loop.invariant.0))

pub loop-direction-preserved : goal.loop-direction-preserved
loop-direction-preserved c =
    let cs = c.args.directions.now in
    let loop = c.loop-direction in
    let i = length loop.yielded in
    let turn = zip_turn cs c.args.row.values.now loop.yielded c.into_iter-direction-iterator.result loop.direction-iterator c.next.new.self c.next.result (search rules) (search rules) loop.yielded_by (c.in-Some.direction, c.in-Some.value) c.in-Some.is c.next.ensures.steps in
    let r = data_of c.args.row in
    let at = column_at c.args.row i c.in-Some.value.now (turn.3 c.in-Some.value.now) turn.1 in
    let d = datum_of c.in-Some.value.now c.args.row.texts.now in
    let code = code_in c.in-Some.direction.now d in
    let more = key_next cs r i c.in-Some.direction.now d turn.0 c.requires.columns.0 (turn.2 Ascending) at.1 in
    let fits = room cs r i c.in-Some.direction.now d turn.0 c.requires.columns.0 (turn.2 Ascending) at.1 in
    let h = rw c.unwrap-at.ensures at c.put.ensures in
    rw length-append (
      omega (arith, h.0, loop.invariant.0, ap length more, length-append (key (take i cs) (take i r)) code),
      rw more (put_next (key (take i cs) (take i r)) code c.args.out.now loop.out c.put.new.out loop.at c.unwrap-at.result loop.invariant.0 loop.invariant.1 loop.auto.out h.0 h.2
          (omega (arith, h.0, fits, c.requires.room, loop.auto.out, loop.invariant.0))),
    )
