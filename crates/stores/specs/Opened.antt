-- The pages of a sealed store, from those of the store below.
use Rattle.std.specs.Prelude.{◌≡◌, ℕ, ◌-◌, cond, List, [], map, length, take, Ok, Err, Result, nat_lt, slice_index_or}
use Rattle.std.specs.List.{range_with_len}
use Rattle.stores.specs.declared.fault.StoreFault.{StoreFault}
use Rattle.stores.specs.declared.fault.StoreFault.TheVariants.{Damaged}
use Rattle.stores.specs.Pages.{Page, sound, damaged}
use Rattle.stores.specs.Sums.{agrees_at}

-- page p behind its seal: all but the last four bytes, where those are their sums
unfoldable pub opened : ℕ → Page → Page
opened p (sound b) = cond (agrees_at (length b - 4) p b) (sound (take (length b - 4) b)) damaged
opened p damaged = damaged

-- each page by a function of its number and what it holds
unfoldable pub each : (ℕ → Page → Page) → List Page → List Page
each f pages = map (λ k. f k (slice_index_or pages k damaged)) (range_with_len 0 (length pages))

-- the sealed store's pages; none where the pages below are shorter than a seal
abbrev pub open_pages : ℕ → List Page → List Page
open_pages len pages = cond (nat_lt len 4) [] (each opened pages)

-- how a page was opened: its n bytes in front of the buffer, or found damaged
abbrev pub Opens : ℕ → Page → ℕ → Result (Unit {0}) StoreFault → List ℕ → Type 0
Opens p page n (Ok u) buf = page ≡ sound (take n buf)
Opens p page n (Err e) buf = (page ≡ damaged) × (e ≡ Damaged p)
