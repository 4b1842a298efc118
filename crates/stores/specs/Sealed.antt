-- Proofs on a sealed page: what its sums are, and what the seal shows of it.
use Rattle.std.specs.Prelude.{◌≡◌, ℕ, ◌-◌, true, false, List, ◌++◌, length, take, refl}
use Rattle.std.proofs.Common.{arith}
use Rattle.std.proofs.lemmas.Nat.{div-add-mod'}
use Rattle.std.proofs.lemmas.List.{length-append, take_at, get_or-append-add, get_or_at}
use Rattle.stores.specs.Pages.{sound, damaged}
use Rattle.stores.specs.Sums.{seal_of, agrees_at}
use Rattle.stores.specs.Opened.{opened}

pub opened_sound : (p n : ℕ) (b : List ℕ) → length b - 4 ≡ n → agrees_at n p b ≡ true → opened p (sound b) ≡ sound (take n b)
unfolding opened
opened_sound p n b e t = rw e (rw t refl)

pub opened_torn : (p n : ℕ) (b : List ℕ) → length b - 4 ≡ n → agrees_at n p b ≡ false → opened p (sound b) ≡ damaged
unfolding opened
opened_torn p n b e t = rw e (rw t refl)

pub opened_damaged : (p : ℕ) → opened p damaged ≡ damaged
unfolding opened
opened_damaged p = refl

-- what was sealed agrees
fresh : (p : ℕ) (d : List ℕ) → agrees_at (length d) p (d ++ seal_of p d) ≡ true
fresh p d = grind (arith, take_at, get_or_at, get_or-append-add, div-add-mod')

pub opened_fresh : (p : ℕ) (d : List ℕ) → opened p (sound (d ++ seal_of p d)) ≡ sound d
opened_fresh p d = grind (arith, opened_sound, fresh, length-append, take_at)
