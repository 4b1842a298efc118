-- The running sums, a byte at a time, and after a change of one byte.
use Rattle.std.proofs.Common.{◌≡◌, ℕ, zero, suc, ◌+◌, ◌*◌, ◌<◌, ◌≤◌, List, [], ◌∷◌, length, get_or, take, drop, set, arith}
use Rattle.std.specs.List.{sum}
use Rattle.std.proofs.lemmas.List.Sums.{sum_by_more, sum_by-set}
use Rattle.std.proofs.lemmas.List.{at_drop_more, at_drop_all}
use Rattle.std.proofs.lemmas.Nat.{mul-le}
use Rattle.stores.specs.Sums.{weighed}

pub sum_more : (xs : List ℕ) (i : ℕ) → i < length xs → sum (take (i + 1) xs) ≡ sum (take i xs) + get_or xs i 0
sum_more xs i h = sum_by_more (λ x. x) xs i 0 h

pub sum_set : (xs : List ℕ) (i v : ℕ) → i < length xs → sum (set xs i v) + get_or xs i 0 ≡ sum xs + v
sum_set xs i v h = sum_by-set (λ x. x) xs i v 0 h

pub weighed_more : (j : ℕ) (xs : List ℕ) (i : ℕ) → i < length xs →
    weighed j (drop i xs) ≡ j * get_or xs i 0 + weighed (j + 1) (drop (i + 1) xs)
unfolding weighed
weighed_more j xs i h = at_drop_more (weighed j) xs i 0 h

pub weighed_all : (j : ℕ) (xs : List ℕ) (i : ℕ) → length xs ≤ i → weighed j (drop i xs) ≡ 0
unfolding weighed
weighed_all j xs i h = at_drop_all (weighed j) xs i h

-- what a byte adds at most
pub weight_small : (place byte : ℕ) → place ≤ 1024 → byte < 256 → place * byte ≤ 261120
weight_small place byte h l = mul-le place byte 1024 255 h (omega arith)

-- one more byte, and none left
pub ruleset running_totals = (sum_more, weighed_more, weighed_all, weight_small)

pub weighed_set : (j : ℕ) (xs : List ℕ) (i v : ℕ) → i < length xs →
    weighed j (set xs i v) + (j + i) * get_or xs i 0 ≡ weighed j xs + (j + i) * v
unfolding weighed
weighed_set j [] i v h = absurd (omega arith)
weighed_set j (x ∷ xs) zero v h = omega arith
weighed_set j (x ∷ xs) (suc i) v h =
    let place : j + 1 + i ≡ j + suc i = omega arith in
    let more = rw place at (weighed_set (j + 1) xs i v (omega arith)) in
    omega arith
