-- What a reported refusal says.
use Rattle.inline.specs.Listed.{listed}
use Rattle.refusals.specs.Answer.{Told}
use Rattle.refusals.specs.declared.refused.Refused.{Refused}

-- its number, and the values beside it
abbrev pub told_by : Refused → Told
told_by r = (r.number, listed r.beside)
