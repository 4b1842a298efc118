-- Proofs on a layer's pages, each by a function of its number and the page below.
use Rattle.std.specs.Prelude.{◌≡◌, ℕ, ◌<◌, List, length, slice_index_or, slice_set}
use Rattle.std.proofs.Common.{arith}
use Rattle.std.proofs.lemmas.List.FromFn.{length-map-range_with_len, get_or-map-range_with_len}
use Rattle.std.proofs.lemmas.List.{length-set, get_or-set_same, get_or-set_other, same_lists}
use Rattle.stores.specs.Pages.{Page, damaged}
use Rattle.stores.specs.Opened.{each}

pub length_each : (f : ℕ → Page → Page) (pages : List Page) → length (each f pages) ≡ length pages
unfolding each
length_each f pages = length-map-range_with_len (λ k. f k (slice_index_or pages k damaged)) 0 (length pages)

pub get_or_each : (f : ℕ → Page → Page) (pages : List Page) (p : ℕ) (d : Page) → p < length pages → slice_index_or (each f pages) p d ≡ f p (slice_index_or pages p damaged)
unfolding each
get_or_each f pages p d h = get_or-map-range_with_len (λ k. f k (slice_index_or pages k damaged)) 0 (length pages) p p d h (omega arith)

pub each_set : (f : ℕ → Page → Page) (pages : List Page) (p : ℕ) (x : Page) → p < length pages → each f (slice_set pages p x) ≡ slice_set (each f pages) p (f p x)
each_set f pages p x h =
    same_lists _ _ (grind (arith, length_each, length-set)) at_each
  where
    at_each : (k : ℕ) (d : Page) → k < length (each f (slice_set pages p x)) → slice_index_or (each f (slice_set pages p x)) k d ≡ slice_index_or (slice_set (each f pages) p (f p x)) k d
    at_each k d l = grind (arith, length_each, get_or_each, length-set, get_or-set_same, get_or-set_other)
