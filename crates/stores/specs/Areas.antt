-- An area of bytes, cut into pages.
use Rattle.std.specs.Prelude.{ℕ, ◌*◌, ◌/◌, min, Bool, cond, ◌&&◌, List, [], ◌∷◌, ◌++◌, map, take, drop, nat_le}
use Rattle.std.specs.List.{range_with_len}
use Rattle.refusals.specs.Answer.{Answer, gives, refuses}
use Rattle.stores.specs.Pages.{Page, sound, damaged}

-- page k of the area, which starts at k times the page length
abbrev pub page_at : ℕ → List ℕ → ℕ → Page
page_at len area k = sound (take len (drop (k * len) area))

-- the first `count` pages of the area
unfoldable pub cut : ℕ → ℕ → List ℕ → List Page
cut len count area = map (page_at len area) (range_with_len 0 count)

-- whether an image can have pages of this length
abbrev pub allowed : ℕ → Bool
allowed len = nat_le 1 len && nat_le len 1024

-- the answer to the check before the making
abbrev pub length_answer : ℕ → Answer (Unit {0})
length_answer len = cond (allowed len) (gives tt) (refuses 11 [])

-- the page length that the image then has
abbrev pub kept_len : ℕ → ℕ
kept_len len = cond (allowed len) len 0

-- its page count, of an area of so many bytes: the whole pages, at most 65,535
abbrev pub kept_count : ℕ → ℕ → ℕ
kept_count len bytes = cond (allowed len) (min 65535 (bytes / len)) 0

-- a page's bytes; a damaged page shows none
abbrev pub shown : Page → List ℕ
shown (sound b) = b
shown damaged = []

-- the bytes of the pages, one page behind the other
unfoldable pub joined : List Page → List ℕ
joined [] = []
joined (x ∷ xs) = shown x ++ joined xs
