-- Proofs: null keeps the laws of a column code.
use Rattle.std.proofs.Common.{rules}
use Rattle.codes.specs.Codes.{null_code}
use Rattle.codes.specs.Laws.{Laws}

pub null_laws : Laws (λ (_ : Unit {0}). Unit {0}) (λ _. null_code) (λ _ _. ⊥)
null_laws = search rules
