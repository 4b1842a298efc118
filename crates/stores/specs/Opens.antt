-- Proofs on the pages of a sealed store, from the answers of the store below.
use Rattle.std.specs.Prelude.{◌≡◌, ℕ, ◌-◌, ◌<◌, ◌≤◌, List, length, slice_index_or}
use Rattle.std.proofs.Common.{arith}
use Rattle.std.proofs.lemmas.Bool.Decides.{nat_tests}
use Rattle.std.proofs.lemmas.List.{length-take-le, take_at, take-append-le, get_or_past}
use Rattle.stores.specs.Pages.{Page, sound, damaged}
use Rattle.stores.specs.Opened.{opened, each, open_pages}
use Rattle.stores.specs.Eaches.{length_each, get_or_each, each_set}
use Rattle.stores.specs.Sealed.{opened_sound, opened_torn, opened_damaged, opened_fresh}

-- a page of the sealed store is one of the store below, long enough for a seal
pub record Within (low : ℕ) (pages : List Page) (p : ℕ) : Type 0 where
  pub long : 4 ≤ low
  pub lower : p < length pages
  pub are : open_pages low pages ≡ each opened pages

pub within : (low : ℕ) (pages : List Page) (p : ℕ) → p < length (open_pages low pages) → Within low pages p
within low pages p h = record { long = grind arith; lower = grind (arith, length_each); are = grind (arith, nat_tests) }

-- what it shows is what lies below, opened
pub page_of : (low : ℕ) (pages : List Page) (p : ℕ) → p < length (open_pages low pages) →
    slice_index_or (open_pages low pages) p damaged ≡ opened p (slice_index_or pages p damaged)
page_of low pages p h = grind (arith, within, get_or_each)

-- what a page shows that was opened
pub ruleset openings = (within, page_of, opened_sound, opened_torn, opened_damaged, take_at, take-append-le, nat_tests)

-- what a page leaves that was written with its seal
pub ruleset sealings = (within, each_set, opened_fresh)

-- the laws of a page store
pub short : (low : ℕ) → low ≤ 1024 → low - 4 ≤ 1024
short low h = omega arith

pub few : (low : ℕ) (pages : List Page) → length pages ≤ 65535 → length (open_pages low pages) ≤ 65535
few low pages h = grind (arith, length_each)

pub sized : (low : ℕ) (pages : List Page) (p : ℕ) (b : List ℕ) →
    ((c : List ℕ) → slice_index_or pages p damaged ≡ sound c → length c ≡ low) →
    slice_index_or (open_pages low pages) p damaged ≡ sound b → length b ≡ low - 4
sized low pages p b s e = grind (arith, page_of, opened_sound, opened_torn, opened_damaged, length-take-le, get_or_past)
