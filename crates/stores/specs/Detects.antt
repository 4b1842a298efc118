-- What a seal detects.
use Rattle.std.specs.Prelude.{◌≡◌, ℕ, ◌+◌, ◌-◌, ◌%◌, ◌<◌, ◌≤◌, ◌⊎◌, List, length, take, ◌≢◌, slice_index, slice_set}
use Rattle.stores.specs.Pages.{sound, damaged}
use Rattle.stores.specs.Opened.{opened}

-- a page of bytes, with room for a seal, that is sound as page p behind the seal
pub record Whole (p : ℕ) (page : List ℕ) : Type 0 where
  pub bytes : (k : ℕ) → k < length page → slice_index page k < 256
  pub room : 4 ≤ length page
  pub opens : opened p (sound page) ≡ sound (take (length page - 4) page)

-- the page with its bytes k and k + 1 exchanged
abbrev pub exchanged : List ℕ → ℕ → List ℕ
exchanged page k = slice_set (slice_set page k (slice_index page (k + 1))) (k + 1) (slice_index page k)

-- the one exchange that both sums miss: of the last data byte with the first byte of the sums, 0 with 255, where 257
-- divides the number of data bytes. The first sum then moves by 255 and its high byte by 255 × 256 the other way, which
-- is the same modulo 65,535 = 255 × 257; the second sum moves by 255 times the number of data bytes, which is nothing.
-- (A first sum that would then be stored as 65,535 is no sum, so its low byte is not 255.)
pub record Missed (page : List ℕ) (k : ℕ) : Type 0 where
  pub border : k + 5 ≡ length page
  pub by257 : (k + 1) % 257 ≡ 0
  pub values : ((slice_index page k ≡ 0) × (slice_index page (k + 1) ≡ 255)) ⊎ ((slice_index page k ≡ 255) × (slice_index page (k + 1) ≡ 0))
  pub low : slice_index page (k + 2) < 255

-- a whole page is damaged once any one byte is changed, of the data or of the sums
abbrev pub ChangeSeen : Type 0
ChangeSeen = (p k v : ℕ) (page : List ℕ) → Whole p page → k < length page → v < 256 → (v ≢ slice_index page k) →
    opened p (sound (slice_set page k v)) ≡ damaged

-- a whole page is damaged once two unequal neighbouring bytes are exchanged, of the data, the sums or one of each
abbrev pub ExchangeSeen : Type 0
ExchangeSeen = (p k : ℕ) (page : List ℕ) → Whole p page → k + 1 < length page → (slice_index page k ≢ slice_index page (k + 1)) →
    (Missed page k → ⊥) → opened p (sound (exchanged page k)) ≡ damaged

-- and that one exchange leaves it whole
abbrev pub ExchangeMissed : Type 0
ExchangeMissed = (p k : ℕ) (page : List ℕ) → Whole p page → Missed page k → Whole p (exchanged page k)

-- a whole page is damaged where it lies under another page number
abbrev pub MoveSeen : Type 0
MoveSeen = (p q : ℕ) (page : List ℕ) → Whole p page → p < 65535 → q < 65535 → (p ≢ q) → opened q (sound page) ≡ damaged

-- what a seal detects, and the one exchange that it does not
pub record Detects : Type 0 where
  pub change : ChangeSeen
  pub exchange : ExchangeSeen
  pub missed : ExchangeMissed
  pub move : MoveSeen
