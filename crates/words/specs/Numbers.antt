-- Number words with a limit.
use Rattle.std.specs.Prelude.{ℕ, cond, Some, None, Ok, Err, Option, Result, nat_le}
use Rattle.words.specs.declared.fault.WordFault.{WordFault}
use Rattle.words.specs.declared.fault.WordFault.TheVariants.{Form}

-- a number up to a limit; none, or one past it, is not the form that is asked for
abbrev pub number_under : ℕ → Option ℕ → Result ℕ WordFault
number_under limit None = Err Form
number_under limit (Some n) = cond (nat_le n limit) (Ok n) (Err Form)
