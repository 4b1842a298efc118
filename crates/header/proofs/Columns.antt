-- The directions of columns as bits.
use Rattle.std.proofs.Common.{◌≡◌, refl, sym, ap, ◌∙◌, ℕ, zero, suc, ◌+◌, ◌-◌, ◌*◌, ◌/◌, ◌%◌, ◌^◌, ◌<◌, ◌≤◌, List, [], ◌∷◌, ◌++◌, length, take, subst, arith}
use Rattle.std.proofs.Math.ListN.{get_or, set}
use Rattle.std.proofs.lemmas.List.{take_more, take_more_set, length-take-le}
use Rattle.std.proofs.Math.Nat.{pow-suc, mul_assoc, add-mul, div-div-eq-div-mul, mul_comm, mul-mod_left}
use Rattle.std.proofs.lemmas.Nat.{pow_pos, pow-add}
use Rattle.keys.specs.declared.direction.Direction.{Direction}
use Rattle.keys.specs.declared.direction.Direction.TheVariants.{Ascending, Descending}
use Rattle.header.specs.Directions.{direction_bit, direction_bits}

pub bit_below : (d : Direction) → direction_bit d < 2
bit_below Ascending = omega arith
bit_below Descending = omega arith

times_bit : (d : Direction) (p : ℕ) → direction_bit d * p ≤ p
times_bit Ascending p = omega arith
times_bit Descending p = omega arith

-- one column more
pub one_more : (k : ℕ) (ds : List Direction) (d : Direction) → direction_bits k (ds ++ (d ∷ [])) ≡ direction_bits k ds + direction_bit d * 2 ^ (k - length ds - 1)
one_more k [] d = let z : k - 1 ≡ k - 0 - 1 = omega arith in let e : direction_bit d * 2 ^ (k - 1) ≡ direction_bit d * 2 ^ (k - 0 - 1) = ap (λ n. direction_bit d * 2 ^ n) z in let r : direction_bit d * 2 ^ (k - 1) + 0 ≡ 0 + direction_bit d * 2 ^ (k - 0 - 1) = omega arith in r
one_more k (x ∷ ds) d =
    let i = one_more (k - 1) ds d in
    let z : k - 1 - length ds - 1 ≡ k - suc (length ds) - 1 = omega arith in
    let e : direction_bit d * 2 ^ (k - 1 - length ds - 1) ≡ direction_bit d * 2 ^ (k - suc (length ds) - 1) = ap (λ n. direction_bit d * 2 ^ n) z in
    let r : direction_bit x * 2 ^ (k - 1) + direction_bits (k - 1) (ds ++ (d ∷ [])) ≡ direction_bit x * 2 ^ (k - 1) + direction_bits (k - 1) ds + direction_bit d * 2 ^ (k - suc (length ds) - 1) = omega (arith, i, e) in r

-- so many bits hold them
pub bits_below : (k : ℕ) (ds : List Direction) → length ds ≤ k → direction_bits k ds < 2 ^ k
bits_below k [] h = pow_pos k
bits_below zero (d ∷ ds) h = absurd (omega arith)
bits_below (suc k) (d ∷ ds) h =
    let z : suc k - 1 ≡ k = omega arith in
    let i = bits_below k ds (omega arith) in
    let t = times_bit d (2 ^ k) in
    let p = pow-suc 2 k in
    let r : direction_bit d * 2 ^ k + direction_bits k ds < 2 ^ suc k = omega arith in
    subst (λ m. direction_bit d * 2 ^ m + direction_bits m ds < 2 ^ suc k) (sym z) r

-- the highest bits with one more
pub next_bit : (n k : ℕ) → n / 2 ^ suc k * 2 ^ suc k + n / 2 ^ k % 2 * 2 ^ k ≡ n / 2 ^ k * 2 ^ k
next_bit n k =
    let p : 2 ^ suc k ≡ 2 ^ k * 2 = omega (arith, pow-suc 2 k) in
    let q = n / 2 ^ k in
    let d : n / 2 ^ suc k ≡ q / 2 = ap (λ z. n / z) p ∙ sym (div-div-eq-div-mul n (2 ^ k) 2) in
    let m : q / 2 * 2 ^ suc k ≡ q / 2 * 2 * 2 ^ k = ap (λ z. q / 2 * z) (p ∙ mul_comm (2 ^ k) 2) ∙ sym (mul_assoc (q / 2) 2 (2 ^ k)) in
    let s : q / 2 * 2 + q % 2 ≡ q = omega arith in
    ap (λ z. z * 2 ^ suc k + q % 2 * 2 ^ k) d ∙ ap (λ z. z + q % 2 * 2 ^ k) m ∙ sym (add-mul (q / 2 * 2) (q % 2) (2 ^ k)) ∙ ap (λ z. z * 2 ^ k) s

-- the next column of some
pub one_further : (ds : List Direction) (i : ℕ) (x : Direction) → i < length ds → length ds ≤ 8 → direction_bits 8 (take (i + 1) ds) ≡ direction_bits 8 (take i ds) + direction_bit (get_or ds i x) * 2 ^ (7 - i)
one_further ds i x h l =
    let n : 8 - length (take i ds) - 1 ≡ 7 - i = omega (arith, length-take-le i ds) in
    ap (direction_bits 8) (take_more ds i x h) ∙ one_more 8 (take i ds) (get_or ds i x) ∙ ap (λ z. direction_bits 8 (take i ds) + direction_bit (get_or ds i x) * 2 ^ z) n

-- the next column of eight put to its place
pub one_put : (ds : List Direction) (i : ℕ) (d : Direction) → i < length ds → length ds ≤ 8 → direction_bits 8 (take (i + 1) (set ds i d)) ≡ direction_bits 8 (take i ds) + direction_bit d * 2 ^ (7 - i)
one_put ds i d h l =
    let n : 8 - length (take i ds) - 1 ≡ 7 - i = omega (arith, length-take-le i ds) in
    ap (direction_bits 8) (take_more_set ds i d h) ∙ one_more 8 (take i ds) d ∙ ap (λ z. direction_bits 8 (take i ds) + direction_bit d * 2 ^ z) n

-- the direction that the next bit tells
pub one_told : (ds : List Direction) (n i : ℕ) (d : Direction) → i < 8 → length ds ≡ 8 → direction_bit d ≡ n / 2 ^ (7 - i) % 2 → direction_bits 8 (take i ds) ≡ n / 2 ^ (8 - i) * 2 ^ (8 - i)
    → direction_bits 8 (take (i + 1) (set ds i d)) ≡ n / 2 ^ (8 - (i + 1)) * 2 ^ (8 - (i + 1))
one_told ds n i d h l b e =
    let z : 8 - i ≡ suc (7 - i) = omega arith in
    let y : 7 - i ≡ 8 - (i + 1) = omega arith in
    one_put ds i d (omega arith) (omega arith)
    ∙ ap (λ x. x + direction_bit d * 2 ^ (7 - i)) (e ∙ ap (λ x. n / 2 ^ x * 2 ^ x) z)
    ∙ ap (λ x. n / 2 ^ suc (7 - i) * 2 ^ suc (7 - i) + x * 2 ^ (7 - i)) b
    ∙ next_bit n (7 - i) ∙ ap (λ x. n / 2 ^ x * 2 ^ x) y

-- the bits behind those of the columns are 0
parted : (k : ℕ) (ds : List Direction) → length ds ≤ k → (q : ℕ) × (direction_bits k ds ≡ q * 2 ^ (k - length ds))
parted k [] h = (0, let r : 0 ≡ 0 * 2 ^ (k - 0) = omega arith in r)
parted k (d ∷ ds) h =
    let p = parted (k - 1) ds (omega arith) in
    let m = 2 ^ (k - 1 - length ds) in
    let e : 2 ^ (k - 1) ≡ 2 ^ length ds * m = ap (λ z. 2 ^ z) (let z : k - 1 ≡ length ds + (k - 1 - length ds) = omega arith in z) ∙ pow-add 2 (length ds) (k - 1 - length ds) in
    let s : direction_bit d * 2 ^ (k - 1) ≡ direction_bit d * 2 ^ length ds * m = ap (λ z. direction_bit d * z) e ∙ sym (mul_assoc (direction_bit d) (2 ^ length ds) m) in
    let j : (direction_bit d * 2 ^ length ds + p.0) * m ≡ direction_bit d * 2 ^ length ds * m + p.0 * m = add-mul (direction_bit d * 2 ^ length ds) (p.0) m in
    let z : k - 1 - length ds ≡ k - suc (length ds) = omega arith in (
      direction_bit d * 2 ^ length ds + p.0,
      ap (λ x. x + direction_bits (k - 1) ds) s ∙ ap (λ x. direction_bit d * 2 ^ length ds * m + x) p.1 ∙ sym j ∙ ap (λ x. (direction_bit d * 2 ^ length ds + p.0) * 2 ^ x) z,
    )

pub spare : (k : ℕ) (ds : List Direction) → length ds ≤ k → direction_bits k ds % 2 ^ (k - length ds) ≡ 0
spare k ds h = let p = parted k ds h in ap (λ x. x % 2 ^ (k - length ds)) p.1 ∙ mul-mod_left (p.0) (2 ^ (k - length ds))

same_first : (x y : Direction) (p a b : ℕ) → a < p → b < p → direction_bit x * p + a ≡ direction_bit y * p + b → (x ≡ y) × (a ≡ b)
same_first Ascending Ascending p a b h l e = (refl, omega arith)
same_first Ascending Descending p a b h l e = absurd (omega arith)
same_first Descending Ascending p a b h l e = absurd (omega arith)
same_first Descending Descending p a b h l e = (refl, omega arith)

-- as many directions with the same bits are the same
pub same_directions : (k : ℕ) (xs ys : List Direction) → length xs ≡ length ys → length xs ≤ k → direction_bits k xs ≡ direction_bits k ys → xs ≡ ys
same_directions k [] [] n h e = refl
same_directions k [] (y ∷ ys) n h e = absurd (omega arith)
same_directions k (x ∷ xs) [] n h e = absurd (omega arith)
same_directions k (x ∷ xs) (y ∷ ys) n h e =
    let p = same_first x y (2 ^ (k - 1)) (direction_bits (k - 1) xs) (direction_bits (k - 1) ys) (bits_below (k - 1) xs (omega arith)) (bits_below (k - 1) ys (omega arith)) e in
    ap (λ z. z ∷ xs) p.0 ∙ ap (λ zs. y ∷ zs) (same_directions (k - 1) xs ys (omega arith) (omega arith) p.1)
