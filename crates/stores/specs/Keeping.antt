-- A page written and read back.
use Rattle.std.specs.Prelude.{◌≡◌, ℕ, cond, ◌&&◌, List, [], ◌∷◌, ◌++◌, length, drop, Ok, Err, Result, ◌==◌, ◌≢◌, nat_le, nat_lt, slice_index_or}
use Rattle.refusals.specs.Answer.{Answer, gives, refuses}
use Rattle.stores.specs.declared.fault.StoreFault.{StoreFault}
use Rattle.stores.specs.Pages.{Page, sound, damaged}

-- m bytes for page p, and a buffer with room for n: no such page, then not one page of bytes or no room for a page
abbrev pub keep_answer : ℕ → List Page → ℕ → ℕ → ℕ → Answer (Unit {0})
keep_answer len pages p m n = cond (nat_lt p (length pages)) (cond (m == len && nat_le len n) (gives tt) (refuses 8 [])) (refuses 9 (p ∷ []))

-- accepted: page p and the buffer hold the bytes, and every other page is as it was; refused: all is as it was
abbrev pub Keeps : Result (Unit {0}) StoreFault → ℕ → List ℕ → List Page → List Page → List ℕ → List ℕ → Type 0
Keeps (Ok u) p bytes pages after buf out =
    (slice_index_or after p damaged ≡ sound bytes) × (out ≡ bytes ++ drop (length bytes) buf)
    × ((k : ℕ) → (k ≢ p) → slice_index_or after k damaged ≡ slice_index_or pages k damaged)
Keeps (Err e) p bytes pages after buf out = (after ≡ pages) × (out ≡ buf)
