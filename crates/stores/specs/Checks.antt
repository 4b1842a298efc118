-- What a page store checks before it reads or writes a page.
use Rattle.std.specs.Prelude.{ℕ, Bool, cond, Ok, Err, Result, nat_lt}
use Rattle.stores.specs.declared.fault.StoreFault.{StoreFault}
use Rattle.stores.specs.declared.fault.StoreFault.TheVariants.{NoSuchPage, WrongLength}

-- page p of so many, and whether the bytes for it fit: no such page, then the wrong length
abbrev pub check_answer : ℕ → ℕ → Bool → Result (Unit {0}) StoreFault
check_answer count p fits = cond (nat_lt p count) (cond fits (Ok tt) (Err WrongLength)) (Err (NoSuchPage p))
