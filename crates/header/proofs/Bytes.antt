-- Numbers as bytes, high bytes first, and back.
use Rattle.std.proofs.Common.{◌≡◌, refl, sym, ap, ◌∙◌, ℕ, zero, suc, ◌+◌, ◌-◌, ◌*◌, ◌/◌, ◌%◌, ◌^◌, ◌<◌, ◌≤◌, List, [], ◌∷◌, ◌++◌, length, arith}
use Rattle.std.proofs.Math.Nat.{pow-suc, mul_assoc, div-div-eq-div-mul, mul-add-div_right, mul-add-mod_self_right, mul_comm}
use Rattle.std.proofs.lemmas.Nat.{pow-add, div-mul-add, mod-pow-add}
use Rattle.std.specs.Int.{byte_at, bytes_high_first}
use Rattle.std.specs.Int.Digits.{number_from_digits, number_from_digits_after, AllBelowBase}
use Rattle.std.proofs.lemmas.Int.Digits.{number_lt}
use Rattle.header.proofs.Numbers.{after, octets}

pub byte_is : (i n : ℕ) → byte_at i n ≡ n / 256 ^ i % 256
byte_is zero n = omega arith
byte_is (suc i) n = refl

octets_pos : (i : ℕ) → 0 < 256 ^ i
octets_pos zero = omega arith
octets_pos (suc i) = omega (arith, octets_pos i, pow-suc 256 i)

-- a low byte of two numbers one behind the other
low_byte : (i j f r : ℕ) → byte_at i (f * 256 ^ (j + 1 + i) + r) ≡ byte_at i r
low_byte i j f r =
    let m = 256 ^ i in
    let p : f * 256 ^ (j + 1 + i) ≡ f * 256 ^ j * 256 * m =
    ap (λ z. f * z) (pow-add 256 (j + 1) i ∙ ap (λ z. z * m) (pow-add 256 j 1)) ∙ sym (mul_assoc f (256 ^ j * 256) m) ∙ ap (λ z. z * m) (sym (mul_assoc f (256 ^ j) 256)) in
    byte_is i (f * 256 ^ (j + 1 + i) + r)
    ∙ ap (λ z. (z + r) / m % 256) p
    ∙ ap (λ z. z % 256) (mul-add-div_right (octets_pos i) (f * 256 ^ j * 256) r)
    ∙ mul-add-mod_self_right (f * 256 ^ j) 256 (r / m)
    ∙ sym (byte_is i r)

-- the low bytes of two numbers one behind the other
pub lows : (j k f r : ℕ) → j ≤ k → bytes_high_first j (f * 256 ^ k + r) ≡ bytes_high_first j r
lows zero k f r h = refl
lows (suc j) k f r h =
    let z : k ≡ (k - j - 1) + 1 + j = omega arith in
    let b : byte_at j (f * 256 ^ k + r) ≡ byte_at j r = ap (λ x. byte_at j (f * 256 ^ x + r)) z ∙ low_byte j (k - j - 1) f r in
    ap (λ x. x ∷ bytes_high_first j (f * 256 ^ k + r)) b ∙ ap (λ x. byte_at j r ∷ x) (lows j k f r (omega arith))

-- a high byte of two numbers one behind the other
high_byte : (i k f r : ℕ) → r < 256 ^ k → byte_at (i + k) (f * 256 ^ k + r) ≡ byte_at i f
high_byte i k f r h =
    byte_is (i + k) (f * 256 ^ k + r)
    ∙ ap (λ z. (f * 256 ^ k + r) / z % 256) (pow-add 256 i k ∙ mul_comm (256 ^ i) (256 ^ k))
    ∙ ap (λ z. z % 256) (sym (div-div-eq-div-mul (f * 256 ^ k + r) (256 ^ k) (256 ^ i)))
    ∙ ap (λ z. z / 256 ^ i % 256) (div-mul-add f (256 ^ k) r h)
    ∙ sym (byte_is i f)

-- two numbers one behind the other as bytes
pub behind : (j k f r : ℕ) → r < 256 ^ k → bytes_high_first (j + k) (f * 256 ^ k + r) ≡ bytes_high_first j f ++ bytes_high_first k r
behind zero k f r h = (let z : zero + k ≡ k = omega arith in ap (λ x. bytes_high_first x (f * 256 ^ k + r)) z) ∙ lows k k f r (omega arith)
behind (suc j) k f r h =
    (let z : suc j + k ≡ suc (j + k) = omega arith in ap (λ x. bytes_high_first x (f * 256 ^ k + r)) z)
    ∙ ap (λ x. x ∷ bytes_high_first (j + k) (f * 256 ^ k + r)) (high_byte j k f r h) ∙ ap (λ x. byte_at j f ∷ x) (behind j k f r h)

pub length_bytes : (k n : ℕ) → length (bytes_high_first k n) ≡ k
length_bytes zero n = refl
length_bytes (suc k) n = ap suc (length_bytes k n)

-- the number that a number's bytes write
pub number_of_bytes : (k n : ℕ) → number_from_digits 256 (bytes_high_first k n) ≡ n % 256 ^ k
number_of_bytes zero n = omega arith
number_of_bytes (suc k) n =
    let b = byte_at k n in
    let bs = bytes_high_first k n in
    let z : 0 * 256 + b ≡ b = omega arith in
    let m : n % 2 ^ (8 + 8 * k) ≡ n / 2 ^ (8 * k) % 256 * 2 ^ (8 * k) + n % 2 ^ (8 * k) = mod-pow-add n 8 (8 * k) in
    let w : 8 + 8 * k ≡ 8 * suc k = omega arith in
    let all : n % 256 ^ suc k ≡ n / 256 ^ k % 256 * 256 ^ k + n % 256 ^ k =
    sym (ap (λ x. n % x) (ap (λ x. 2 ^ x) w ∙ octets (suc k))) ∙ m ∙ ap (λ x. n / x % 256 * x + n % x) (octets k) in
    ap (λ x. number_from_digits_after 256 x bs) z ∙ after b bs ∙ ap (λ x. b * 256 ^ x + number_from_digits 256 bs) (length_bytes k n)
    ∙ ap (λ x. b * 256 ^ k + x) (number_of_bytes k n) ∙ ap (λ x. x * 256 ^ k + n % 256 ^ k) (byte_is k n) ∙ sym all

-- the bytes of the number that bytes write
pub bytes_of_number : (ds : List ℕ) → AllBelowBase 256 ds → bytes_high_first (length ds) (number_from_digits 256 ds) ≡ ds
bytes_of_number [] u = refl
bytes_of_number (d ∷ ds) u =
    let k = length ds in
    let m = number_from_digits 256 ds in
    let z : 0 * 256 + d ≡ d = omega arith in
    let e : number_from_digits_after 256 (0 * 256 + d) ds ≡ d * 256 ^ k + m = ap (λ x. number_from_digits_after 256 x ds) z ∙ after d ds in
    let l = number_lt 256 ds u.1 in
    let b : byte_at k (d * 256 ^ k + m) ≡ d = byte_is k (d * 256 ^ k + m) ∙ ap (λ x. x % 256) (div-mul-add d (256 ^ k) m l) ∙ (let s = u.0 in omega arith) in
    ap (λ x. byte_at k x ∷ bytes_high_first k x) e ∙ ap (λ x. x ∷ bytes_high_first k (d * 256 ^ k + m)) b
    ∙ ap (λ x. d ∷ x) (lows k k d m (omega arith) ∙ bytes_of_number ds u.1)
