use Rattle.std.proofs.Common.{◌≡◌, ◌++◌, map, take, drop}
use Rattle.codes.specs.Strings.{flip}
use Rattle.codes.proofs.code.complement.Given as goal

abbrev pub invariant-loop-b : goal.invariant-loop-b
invariant-loop-b l = l.bytes ≡ map flip (take l.b-index l.initial.bytes) ++ drop l.b-index l.initial.bytes
