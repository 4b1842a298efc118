-- How many first cells make up half of all, and what is then left on both sides.
use Rattle.std.proofs.Common.{◌≡◌, ℕ, ◌+◌, ◌-◌, ◌*◌, ◌<◌, ◌≤◌, ◌++◌, List, [], ◌∷◌, All, length, take, drop, sum, refl, ap, ◌∙◌, arith, zero, suc}
use Rattle.std.proofs.lemmas.List.Sums.{sum_by-append, sum_by-take-drop}
use Rattle.separators.specs.Halves.{cells_to_half, split_point, AreHalf, Overfull, Halves}

first : (x : ℕ) (xs : List ℕ) → sum (x ∷ xs) ≡ x + sum xs
first x xs = let e : sum (x ∷ []) ≡ x = omega arith in sum_by-append (λ y. y) (x ∷ []) xs ∙ ap (λ s. s + sum xs) e

within : (n : ℕ) (xs : List ℕ) → cells_to_half n xs ≤ length xs
within zero xs = omega arith
within (suc n) [] = omega arith
within (suc n) (x ∷ xs) = let h = within (suc n - 2 * x) xs in omega arith

enough : (n : ℕ) (xs : List ℕ) → n ≤ 2 * sum xs → n ≤ 2 * sum (take (cells_to_half n xs) xs)
enough zero xs h = omega arith
enough (suc n) [] h = omega arith
enough (suc n) (x ∷ xs) h =
    let g = enough (suc n - 2 * x) xs (omega (arith, first x xs)) in
    omega (arith, g, first x (take (cells_to_half (suc n - 2 * x) xs) xs))

fewest : (n : ℕ) (xs : List ℕ) (m : ℕ) → m < cells_to_half n xs → 2 * sum (take m xs) < n
fewest zero xs m h = absurd (omega arith)
fewest (suc n) [] m h = absurd (omega arith)
fewest (suc n) (x ∷ xs) zero h = omega arith
fewest (suc n) (x ∷ xs) (suc m) h = let g = fewest (suc n - 2 * x) xs m (omega arith) in omega (arith, g, first x (take m xs))

pub are_half : (sizes : List ℕ) → AreHalf sizes (split_point sizes)
are_half sizes = record {
  within = within (sum sizes) sizes;
  enough = enough (sum sizes) sizes (omega arith);
  fewest = fewest (sum sizes) sizes;
}

one_more : (c : ℕ) (xs : List ℕ) (j : ℕ) → All (λ s. s ≤ c) xs → sum (take (suc j) xs) ≤ sum (take j xs) + c
one_more c [] j h = omega arith
one_more c (x ∷ xs) zero h = omega (arith, h 0 x (omega arith), first x [])
one_more c (x ∷ xs) (suc j) h =
    let g = one_more c xs j (λ k d p. h (suc k) d (omega arith)) in omega (arith, g, first x (take (suc j) xs), first x (take j xs))

some_taken : (j : ℕ) (xs : List ℕ) → 0 < sum (take j xs) → 0 < j
some_taken zero xs h = absurd (omega arith)
some_taken (suc j) xs h = omega arith

some_left : (k : ℕ) (xs : List ℕ) → 0 < sum (drop k xs) → k < length xs
some_left zero [] h = absurd (omega arith)
some_left zero (x ∷ xs) h = omega arith
some_left (suc k) [] h = absurd (omega arith)
some_left (suc k) (x ∷ xs) h = let g = some_left k xs h in omega arith

halved : (room c : ℕ) (sizes : List ℕ) (k : ℕ) → AreHalf sizes k → Overfull room c sizes → Halves room sizes k
halved room c sizes zero h o = absurd (omega (arith, h.enough, o.over))
halved room c sizes (suc j) h o =
    let m = one_more c sizes j o.small in
    let f = h.fewest j (omega arith) in
    let e = h.enough in
    let p = sum_by-take-drop (λ y. y) sizes (suc j) in
    let t = o.three in
    let v = o.over in
    let b = o.by_one in record {
      left_keeps = let g = some_taken j sizes (omega arith) in omega arith;
      right_keeps = some_left (suc j) sizes (omega arith);
      left_fits = omega arith;
      right_fits = omega arith;
    }

pub halves : (room c : ℕ) (sizes : List ℕ) → Overfull room c sizes → Halves room sizes (split_point sizes)
halves room c sizes o = halved room c sizes (split_point sizes) (are_half sizes) o

-- cells that do not make up half are passed
pass : (n : ℕ) (xs ys : List ℕ) → 2 * sum xs < n → cells_to_half n (xs ++ ys) ≡ length xs + cells_to_half (n - 2 * sum xs) ys
pass n [] ys h = let e : n - 2 * 0 ≡ n = omega arith in rw e (omega arith)
pass zero (x ∷ xs) ys h = absurd (omega arith)
pass (suc n) (x ∷ xs) ys h =
    let f = first x xs in
    let g = pass (suc n - 2 * x) xs ys (omega (arith, f, h)) in
    let e : suc n - 2 * sum (x ∷ xs) ≡ (suc n - 2 * x) - 2 * sum xs = omega (arith, f) in
    rw e (omega (arith, g))

-- the cell at which nothing is missing any more
pub arrive : (n : ℕ) (xs ys : List ℕ) (x : ℕ) → 2 * sum xs < n → n - 2 * sum xs - 2 * x ≡ 0 → cells_to_half n (xs ++ x ∷ ys) ≡ suc (length xs)
arrive n xs ys x h z = omega (arith, pass n xs (x ∷ ys) h, at (n - 2 * sum xs) (omega arith) z)
  where
    at : (m : ℕ) → 0 < m → m - 2 * x ≡ 0 → cells_to_half m (x ∷ ys) ≡ 1
    at zero p q = absurd (omega arith)
    at (suc m) p q = rw q refl

-- the cells so far, with one more
pub with_next : (xs : List ℕ) (x : ℕ) → sum (xs ++ x ∷ []) ≡ sum xs + x
with_next xs x = let e : sum (x ∷ []) ≡ x = omega arith in sum_by-append (λ y. y) xs (x ∷ []) ∙ ap (λ s. sum xs + s) e
