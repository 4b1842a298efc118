use Rattle.std.proofs.Common.{◌≡◌, ℕ, List, Err}
use Rattle.codes.specs.declared.code.descending.Descending.{Descending}
use Rattle.codes.specs.declared.unread.Unread.{Unread}
use Rattle.codes.specs.declared.unread.Unread.TheVariants.{NoCode, NoRoom}
use Rattle.codes.specs.declared.value.Value.{Value}
use Rattle.codes.specs.Codes.{datum_code}
use Rattle.codes.specs.Means.{datum_of}
use Rattle.codes.specs.Reading.{Read}
use Rattle.codes.specs.Sources.{seen}
use Rattle.codes.specs.Strings.{flipped}
use Rattle.codes.specs.Values.{Datum, Valid, spelled_in}
use Rattle.codes.proofs.Exits.{exit_same}
use Rattle.keys.specs.declared.direction.Direction.{Direction}
use Rattle.keys.specs.declared.direction.Direction.TheVariants.{Descending as Falling}
use Rattle.keys.specs.Records.{code_in}
use Rattle.keys.proofs.direction.Direction.read.Goals as goal

-- a refusal is the same for a value and for the complemented one
refused : (c : Direction) (b before after : List ℕ) (why : Unread) → c ≡ Falling →
    Read {V = Descending Value} {M = Datum} Valid (λ m. flipped (datum_code m)) (λ v. datum_of v.0) spelled_in b before after (Err why) →
    Read {V = Value} Valid (code_in c) datum_of spelled_in b before after (Err why)
refused c b before after (NoCode stop) e h = rw e h
refused c b before after NoRoom e h = rw e h

pub returns-in_err-value-in-Descending : goal.returns-in_err-value-in-Descending
returns-in_err-value-in-Descending c =
    let b = seen c.args.source in
    let why = c.in_err-value-in-Descending.field-0.0 in
    let after = c.read-in-Descending.new.texts in
    exit_same (Read Valid (code_in c.args.self) datum_of spelled_in b c.args.texts.now after) c.from_residual.result why c.from_residual.ensures.1
    (refused c.args.self b c.args.texts.now after why c.in-Descending.is c.in_err-value-in-Descending.ensures)
