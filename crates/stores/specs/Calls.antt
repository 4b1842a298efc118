-- What the calls of a page store answer and leave, at its page length and pages.
use Rattle.std.specs.Prelude.{ℕ, cond, List, [], ◌∷◌, ◌++◌, length, drop, ◌==◌, nat_lt, slice_index_or, slice_set}
use Rattle.refusals.specs.Answer.{Answer, gives, refuses}
use Rattle.stores.specs.Pages.{Page, sound, damaged}

-- the answer to a read that finds this at page p
abbrev pub page_answer : ℕ → Page → Answer (Unit {0})
page_answer p (sound b) = gives tt
page_answer p damaged = refuses 10 (p ∷ [])

-- the buffer after it: the page, and behind it what was there
abbrev pub page_buffer : Page → List ℕ → List ℕ
page_buffer (sound b) buf = b ++ drop (length b) buf
page_buffer damaged buf = buf

-- a read of page p into a buffer of m bytes: no such page, then a short buffer, then a damaged page
abbrev pub read_answer : ℕ → List Page → ℕ → ℕ → Answer (Unit {0})
read_answer len pages p m =
    cond (nat_lt p (length pages)) (cond (nat_lt m len) (refuses 8 []) (page_answer p (slice_index_or pages p damaged))) (refuses 9 (p ∷ []))

-- the buffer after the read
abbrev pub read_buffer : ℕ → List Page → ℕ → List ℕ → List ℕ
read_buffer len pages p buf =
    cond (nat_lt p (length pages)) (cond (nat_lt (length buf) len) buf (page_buffer (slice_index_or pages p damaged) buf)) buf

-- a write of m bytes to page p: no such page, then not one page of bytes
abbrev pub write_answer : ℕ → List Page → ℕ → ℕ → Answer (Unit {0})
write_answer len pages p m = cond (nat_lt p (length pages)) (cond (m == len) (gives tt) (refuses 8 [])) (refuses 9 (p ∷ []))

-- the pages after the write
abbrev pub write_pages : ℕ → List Page → ℕ → List ℕ → List Page
write_pages len pages p bytes =
    cond (nat_lt p (length pages)) (cond (length bytes == len) (slice_set pages p (sound bytes)) pages) pages
