-- What reading a decimal as a value answers, which touches no lent bytes.
use Rattle.std.specs.Prelude.{ℕ, List, Result}
use Rattle.codes.specs.declared.unread.Unread.{Unread}
use Rattle.codes.specs.declared.value.Value.{Value}
use Rattle.codes.specs.Codes.{datum_code}
use Rattle.codes.specs.Means.{datum_of}
use Rattle.codes.specs.Reading.{Read}
use Rattle.codes.specs.Values.{Valid, spelled_in}

-- whatever bytes are lent
abbrev pub ValueRead : List ℕ → Result (Value × ℕ) Unread → Type 0
ValueRead b r = (lent : List ℕ) → Read Valid datum_code datum_of spelled_in b lent lent r
