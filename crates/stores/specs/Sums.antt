-- The two sums that seal a page.
use Rattle.std.specs.Prelude.{ℕ, ◌+◌, ◌*◌, ◌/◌, ◌%◌, Bool, ◌&&◌, List, [], ◌∷◌, sum, take, ◌==◌, slice_index}

-- each byte times its place, the first at j
unfoldable pub weighed : ℕ → List ℕ → ℕ
weighed j [] = 0
weighed j (x ∷ xs) = j * x + weighed (j + 1) xs

-- the first sum, A, of page p: its number and all bytes together
abbrev pub check_a : ℕ → List ℕ → ℕ
check_a p bytes = (p + sum bytes) % 65535

-- the second sum, B
abbrev pub check_b : List ℕ → ℕ
check_b bytes = weighed 1 bytes % 65535

-- a number of two bytes, high byte first
abbrev pub pair_of : ℕ → ℕ → ℕ
pair_of hi lo = hi * 256 + lo

-- two sums as four bytes, high byte first
abbrev pub quad : ℕ → ℕ → List ℕ
quad a b = a / 256 ∷ a % 256 ∷ b / 256 ∷ b % 256 ∷ []

-- the four bytes that stand behind the data bytes of page p
abbrev pub seal_of : ℕ → List ℕ → List ℕ
seal_of p bytes = quad (check_a p bytes) (check_b bytes)

-- whether the four bytes behind the first n of page p are the sums of those
abbrev pub agrees_at : ℕ → ℕ → List ℕ → Bool
agrees_at n p page =
    (pair_of (slice_index page n) (slice_index page (n + 1)) == check_a p (take n page))
    && pair_of (slice_index page (n + 2)) (slice_index page (n + 3)) == check_b (take n page)
