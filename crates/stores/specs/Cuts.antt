-- Proofs: what an area cut into pages holds, and what a page written into it changes.
use Rattle.std.specs.Prelude.{◌≡◌, ℕ, zero, suc, ◌+◌, ◌-◌, ◌*◌, ◌<◌, ◌≤◌, List, ◌++◌, map, length, take, drop, slice_index_or, slice_set, refl}
use Rattle.std.proofs.Common.{inl, inr, arith, mul-le-mul_right, suc-mul, zero-mul, add-mul, take-add}
use Rattle.std.specs.List.{range_with_len}
use Rattle.std.proofs.lemmas.Bool.{cases_order}
use Rattle.std.proofs.lemmas.Slice.{between-put_mid, take-put_mid_below, drop-put_mid}
use borrow.Rule.Slice.PartMut.{put_mid}
use Rattle.std.proofs.lemmas.List.FromFn.{length-map-range_with_len, get_or-map-range_with_len}
use Rattle.std.proofs.lemmas.List.{length-take-le, length-drop, length-set, get_or_past, get_or-set_same, get_or-set_other, same_lists, drop-drop, drop-take, take-append-drop, with_items_is}
use Rattle.stores.specs.Pages.{Page, sound, damaged}
use Rattle.stores.specs.Areas.{cut, joined, page_at}

pub length_cut : (len count : ℕ) (area : List ℕ) → length (cut len count area) ≡ count
unfolding cut
length_cut len count area = length-map-range_with_len (page_at len area) 0 count

pub get_or_cut : (len count : ℕ) (area : List ℕ) (p : ℕ) (d : Page) → p < count →
    slice_index_or (cut len count area) p d ≡ page_at len area p
unfolding cut
get_or_cut len count area p d h = get_or-map-range_with_len (page_at len area) 0 count p p d h (omega arith)

-- a page ends before or where the last one does
pub ends : (count len p : ℕ) → p < count → p * len + len ≤ count * len
ends count len p h = let m = mul-le-mul_right len h in rw suc-mul at m

-- every page has the page length
pub sized : (len count : ℕ) (area : List ℕ) (p : ℕ) (b : List ℕ) → count * len ≤ length area →
    slice_index_or (cut len count area) p damaged ≡ sound b → length b ≡ len
sized len count area p b w e = grind (arith, length_cut, get_or_cut, ends, get_or_past, length-take-le, length-drop)

-- bytes put in the place of page p are page p; the other pages stay
pub cut_put : (len count p at n : ℕ) (area bytes : List ℕ) → p < count → count * len ≤ length area → length bytes ≡ len →
    at ≡ p * len → n ≡ len → cut len count (put_mid at n area bytes) ≡ slice_set (cut len count area) p (sound bytes)
cut_put len count p at n area bytes h w e a m =
    same_lists _ _ (grind (arith, length_cut, length-set)) each
  where
    put : List ℕ
    put = put_mid at n area bytes

    each : (k : ℕ) (d : Page) → k < length (cut len count put) →
        slice_index_or (cut len count put) k d ≡ slice_index_or (slice_set (cut len count area) p (sound bytes)) k d
    each k d l =
        let top = ends count len p h in
        elim (cases_order k p) [
          | inl same ↦
              let size : at + len - at ≡ len = omega arith in
              let here = rw size at (between-put_mid at n area bytes (at + len) (omega arith) (omega arith)) in
              grind (arith, length_cut, get_or_cut, get_or-set_same)
          | inr (inl less) ↦
              let near = ends p len k less in
              let front = take-put_mid_below at n area bytes (k * len + len) (omega arith) (omega arith) in
              grind (arith, length_cut, get_or_cut, get_or-set_other, drop-take (k * len) len put, drop-take (k * len) len area)
          | inr (inr more) ↦ let far = ends k len p more in grind (arith, length_cut, get_or_cut, get_or-set_other, drop-put_mid)
        ]

-- what a page put into an area leaves of it
pub ruleset puts = (length_cut, ends, cut_put, drop-put_mid, with_items_is)

-- pages from k on, joined again
joined_from : (len k n : ℕ) (area : List ℕ) → joined (map (page_at len area) (range_with_len k n)) ≡ take (n * len) (drop (k * len) area)
unfolding joined
joined_from len k zero area = rw zero-mul refl
joined_from len k (suc n) area = grind (arith, joined_from len (k + 1) n area, add-mul, suc-mul, drop-drop, take-add)

-- an area is its pages, and what lies behind them
pub parted : (len count : ℕ) (area : List ℕ) → joined (cut len count area) ++ drop (count * len) area ≡ area
unfolding cut
parted len count area = grind (arith, joined_from len 0 count area, take-append-drop)
