-- The number that bytes write, high bytes first.
use Rattle.std.proofs.Common.{◌≡◌, refl, sym, ap, ◌∙◌, ℕ, zero, suc, ◌+◌, ◌-◌, ◌*◌, ◌/◌, ◌%◌, ◌^◌, ◌<◌, ◌≤◌, List, [], ◌∷◌, ◌++◌, length, take, drop, arith}
use Rattle.std.proofs.Math.ListN.{get_or}
use Rattle.std.proofs.Math.Nat.{pow-suc, pow-zero, pow-le-pow_right, mul_assoc, add-mul}
use Rattle.std.specs.Int.Digits.{number_from_digits, number_from_digits_after, AllBelowBase}
use Rattle.std.proofs.lemmas.Int.Digits.{number_after_append, number_lt}
use Rattle.std.proofs.Math.Nat.{div-div-eq-div-mul, mul-add-div_right, mul-add-mod_self_right}
use Rattle.std.proofs.lemmas.List.{take_more, take-append-drop, take-take, drop-take, length-drop, length-take-le, get_or-drop}
use Rattle.std.proofs.lemmas.List.Folds.{drop_split}
use Rattle.std.proofs.lemmas.Nat.{pow-add, div-mul-add, pow_pos}

-- behind a number, its worth is that number moved up
pub after : (n : ℕ) (ds : List ℕ) → number_from_digits_after 256 n ds ≡ n * 256 ^ length ds + number_from_digits 256 ds
after n [] = rw pow-zero (omega arith)
after n (d ∷ ds) =
    let u = 256 ^ length ds in
    let m : (n * 256 + d) * u ≡ n * (256 * u) + d * u = add-mul (n * 256) d u ∙ ap (λ x. x + d * u) (mul_assoc n 256 u) in
    let p : 256 ^ suc (length ds) ≡ 256 * u = omega (arith, pow-suc 256 (length ds)) in
    let q : n * 256 ^ suc (length ds) ≡ n * (256 * u) = ap (λ x. n * x) p in
    let f : number_from_digits_after 256 (0 * 256 + d) ds ≡ d * u + number_from_digits 256 ds = (let z : 0 * 256 + d ≡ d = omega arith in ap (λ k. number_from_digits_after 256 k ds) z) ∙ after d ds in
    let g : number_from_digits_after 256 (n * 256 + d) ds ≡ (n * 256 + d) * u + number_from_digits 256 ds = after (n * 256 + d) ds in
    let r : number_from_digits_after 256 (n * 256 + d) ds ≡ n * 256 ^ suc (length ds) + number_from_digits_after 256 (0 * 256 + d) ds = omega (arith, m, q, f, g) in
    r

pub append : (xs ys : List ℕ) → number_from_digits 256 (xs ++ ys) ≡ number_from_digits 256 xs * 256 ^ length ys + number_from_digits 256 ys
append xs ys = number_after_append 256 0 xs ys ∙ after (number_from_digits 256 xs) ys

-- one byte more
pub more : (ds : List ℕ) (i : ℕ) → i < length ds → number_from_digits 256 (take (i + 1) ds) ≡ number_from_digits 256 (take i ds) * 256 + get_or ds i 0
more ds i h = ap (number_from_digits 256) (take_more ds i 0 h) ∙ number_after_append 256 0 (take i ds) (get_or ds i 0 ∷ [])

-- the bytes of a page at the front of a list
pub bytes_below : (i : ℕ) (ds : List ℕ) → ((j : ℕ) → get_or ds j 0 < 256) → AllBelowBase 256 (take i ds)
bytes_below zero ds u = tt
bytes_below (suc i) [] u = tt
bytes_below (suc i) (d ∷ ds) u = (u 0, bytes_below i ds (λ j. u (suc j)))

pub length-take_at_most : {A : Type 0} (i : ℕ) (ds : List A) → length (take i ds) ≤ i
length-take_at_most zero ds = omega arith
length-take_at_most (suc i) [] = omega arith
length-take_at_most (suc i) (d ∷ ds) = omega (arith, length-take_at_most i ds)

-- how large the number of at most k bytes is
pub front_below : (ds : List ℕ) (i k : ℕ) → ((j : ℕ) → get_or ds j 0 < 256) → i ≤ k → number_from_digits 256 (take i ds) < 256 ^ k
front_below ds i k u h =
    let a = number_lt 256 (take i ds) (bytes_below i ds u) in
    let z : 0 < 256 = omega arith in
    let b : 256 ^ length (take i ds) ≤ 256 ^ k = pow-le-pow_right z {i = length (take i ds)} {j = k} (omega (arith, length-take_at_most i ds)) in
    omega arith

pub octets : (c : ℕ) → 2 ^ (8 * c) ≡ 256 ^ c
octets zero = refl
octets (suc c) =
    let e : 8 * suc c ≡ 8 * c + 8 = omega arith in
    let p : 2 ^ (8 * c + 8) ≡ 2 ^ (8 * c) * 256 = pow-add 2 (8 * c) 8 in
    let o = octets c in
    ap (λ k. 2 ^ k) e ∙ p ∙ omega (arith, o, pow-suc 256 c)

-- w bits of a number lie within k of its bytes, of which c more bytes stand behind: b bits behind them there, and r before
pub middle_bits : (x n y k c w b r : ℕ) → y < 256 ^ c → 8 * k ≡ w + b + r → ((x * 256 ^ k + n) * 256 ^ c + y) / 2 ^ (8 * c + b) % 2 ^ w ≡ n / 2 ^ b % 2 ^ w
middle_bits x n y k c w b r h e =
    let pc : 2 ^ (8 * c + b) ≡ 256 ^ c * 2 ^ b = pow-add 2 (8 * c) b ∙ ap (λ z. z * 2 ^ b) (octets c) in
    let pk : 256 ^ k ≡ 2 ^ r * 2 ^ w * 2 ^ b =
    sym (octets k) ∙ ap (λ z. 2 ^ z) (let q : 8 * k ≡ r + w + b = omega arith in q) ∙ pow-add 2 (r + w) b ∙ ap (λ z. z * 2 ^ b) (pow-add 2 r w) in
    let d : ((x * 256 ^ k + n) * 256 ^ c + y) / 256 ^ c ≡ x * 256 ^ k + n = div-mul-add (x * 256 ^ k + n) (256 ^ c) y h in
    let u : x * 256 ^ k + n ≡ x * (2 ^ r * 2 ^ w) * 2 ^ b + n = ap (λ z. x * z + n) pk ∙ ap (λ z. z + n) (sym (mul_assoc x (2 ^ r * 2 ^ w) (2 ^ b))) in
    let v : x * (2 ^ r * 2 ^ w) ≡ x * 2 ^ r * 2 ^ w = sym (mul_assoc x (2 ^ r) (2 ^ w)) in
    ap (λ z. ((x * 256 ^ k + n) * 256 ^ c + y) / z % 2 ^ w) pc
    ∙ ap (λ z. z % 2 ^ w) (sym (div-div-eq-div-mul ((x * 256 ^ k + n) * 256 ^ c + y) (256 ^ c) (2 ^ b)))
    ∙ ap (λ z. z / 2 ^ b % 2 ^ w) (d ∙ u)
    ∙ ap (λ z. z % 2 ^ w) (mul-add-div_right (pow_pos b) (x * (2 ^ r * 2 ^ w)) n)
    ∙ ap (λ z. (z + n / 2 ^ b) % 2 ^ w) v
    ∙ mul-add-mod_self_right (x * 2 ^ r) (2 ^ w) (n / 2 ^ b)

-- bytes of a page between two places
pub split : (xs : List ℕ) (s e : ℕ) → s ≤ e → e ≤ length xs
    → number_from_digits 256 xs ≡ (number_from_digits 256 (take s xs) * 256 ^ (e - s) + number_from_digits 256 (take (e - s) (drop s xs))) * 256 ^ (length xs - e) + number_from_digits 256 (drop e xs)
split xs s e h l =
    let n = number_from_digits 256 (take s xs) in
    let m = take (e - s) (drop s xs) in
    let t = drop e xs in
    let lm : length m ≡ e - s = length-take-le (e - s) (drop s xs) (omega (arith, length-drop s xs)) in
    let cut : xs ≡ take s xs ++ (m ++ t) = sym (take-append-drop s xs) ∙ ap (λ z. take s xs ++ z) (drop_split xs s e h) in
    let a : number_from_digits 256 xs ≡ number_from_digits_after 256 (number_from_digits_after 256 n m) t =
    ap (number_from_digits 256) cut ∙ number_after_append 256 0 (take s xs) (m ++ t) ∙ number_after_append 256 n m t in
    a ∙ ap (λ z. number_from_digits_after 256 z t) (after n m ∙ ap (λ z. n * 256 ^ z + number_from_digits 256 m) lm)
    ∙ after (n * 256 ^ (e - s) + number_from_digits 256 m) t
    ∙ ap (λ z. (n * 256 ^ (e - s) + number_from_digits 256 m) * 256 ^ z + number_from_digits 256 t) (length-drop e xs)

-- the bits from one place up to another, in the bytes that hold them and in all 18
pub bits_of : (page : List ℕ) (from to s e : ℕ) → ((j : ℕ) → get_or page j 0 < 256) → 18 ≤ length page → from ≤ to → to ≤ 144 → s ≡ from / 8 → e ≡ (to + 7) / 8
    → number_from_digits 256 (take 18 page) / 2 ^ (144 - to) % 2 ^ (to - from) ≡ number_from_digits 256 (take (e - s) (drop s page)) / 2 ^ (8 * e - to) % 2 ^ (to - from)
bits_of page from to s e u l h k p q =
    let xs = take 18 page in
    let lx : length xs ≡ 18 = length-take-le 18 page l in
    let se : s ≤ e = omega arith in
    let e18 : e ≤ 18 = omega arith in
    let mid : take (e - s) (drop s xs) ≡ take (e - s) (drop s page) =
    (let z : 18 ≡ s + (18 - s) = omega arith in ap (λ z. take (e - s) (drop s (take z page))) z)
    ∙ ap (take (e - s)) (drop-take s (18 - s) page) ∙ take-take (e - s) (18 - s) (drop s page) (omega arith) in
    let back : drop e xs ≡ take (18 - e) (drop e page) = (let z : 18 ≡ e + (18 - e) = omega arith in ap (λ z. drop e (take z page)) z) ∙ drop-take e (18 - e) page in
    let low : number_from_digits 256 (take (18 - e) (drop e page)) < 256 ^ (18 - e) = front_below (drop e page) (18 - e) (18 - e) (λ j. omega (arith, get_or-drop e page j 0, u (e + j))) (omega arith) in
    let x = number_from_digits 256 (take s xs) in
    let n = number_from_digits 256 (take (e - s) (drop s page)) in
    let y = number_from_digits 256 (take (18 - e) (drop e page)) in
    let whole : number_from_digits 256 xs ≡ (x * 256 ^ (e - s) + n) * 256 ^ (18 - e) + y =
    split xs s e se (omega arith)
    ∙ ap (λ z. (x * 256 ^ (e - s) + number_from_digits 256 (take (e - s) (drop s xs))) * 256 ^ (z - e) + number_from_digits 256 (drop e xs)) lx
    ∙ ap (λ z. (x * 256 ^ (e - s) + number_from_digits 256 z) * 256 ^ (18 - e) + number_from_digits 256 (drop e xs)) mid
    ∙ ap (λ z. (x * 256 ^ (e - s) + n) * 256 ^ (18 - e) + number_from_digits 256 z) back in
    let up : 144 - to ≡ 8 * (18 - e) + (8 * e - to) = omega arith in
    ap (λ z. z / 2 ^ (144 - to) % 2 ^ (to - from)) whole
    ∙ ap (λ z. ((x * 256 ^ (e - s) + n) * 256 ^ (18 - e) + y) / 2 ^ z % 2 ^ (to - from)) up
    ∙ middle_bits x n y (e - s) (18 - e) (to - from) (8 * e - to) (from - 8 * s) low (omega arith)
