use Rattle.std.proofs.Common.{ℕ, List, length, Ok, Err, Result}
use Rattle.codes.specs.declared.sign.Sign.{Sign}
use Rattle.codes.specs.declared.decimal.digits.Digits.{Digits}
use Rattle.codes.specs.declared.stop.Stop.{Stop}
use Rattle.inline.specs.Listed.{listed}
use Rattle.codes.specs.Codes.{body_of, mantissa}
use Rattle.codes.specs.Leads.{DigitsRead}
use Rattle.codes.specs.Sources.{Through, seen}
use Rattle.codes.proofs.Mantissas.{body_starts, body_stops}
use Rattle.codes.proofs.code.number.reading.read_body.Goals as goal

read : (s : Sign) (xs ys : List ℕ) (r : Result Digits Stop) → Through s xs ys → DigitsRead mantissa ys r → DigitsRead (body_of s) xs r
read s xs ys (Ok d) t h = body_starts s xs ys (listed d.list) (length (listed d.list)) t h
read s xs ys (Err p) t h = body_stops s xs ys p.at t h

pub returns : goal.returns
returns c = read c.args.sign (seen c.args.source) (seen c.signed.result) c.read_mantissa.result c.signed.ensures c.read_mantissa.ensures
