-- Bytes written as hexadecimal pairs.
use Rattle.std.proofs.Common.{◌≡◌, ℕ, zero, suc, ◌+◌, ◌*◌, ◌/◌, ◌%◌, ◌<◌, List, [], ◌∷◌, ◌++◌, length, get_or, take, drop, sym, refl, ap, ◌∙◌, append_assoc, add-zero, lit<, arith}
use Rattle.std.proofs.lemmas.List.{flat_map_more, take_more, drop-drop, get_or-take, get_or-drop}
use Rattle.std.specs.Simd.{first_chunks}
use Rattle.codes.specs.Strings.{Bytes}
use Rattle.words.specs.Hex.{hex, hex_digit, Added, NoHex, NoPair, Pair}

chunk_at : (k : ℕ) (xs : List ℕ) (i : ℕ) (d : List ℕ) → i < k → get_or (first_chunks 2 k xs) i d ≡ take 2 (drop (2 * i) xs)
chunk_at zero xs i d h = absurd (omega arith)
chunk_at (suc k) xs zero d h = refl
chunk_at (suc k) xs (suc i) d h =
    let two : 2 + 2 * i ≡ 2 * suc i = omega arith in
    chunk_at k (drop 2 xs) i d (omega arith) ∙ ap (take 2) (drop-drop (2 * i) 2 xs) ∙ ap (λ n. take 2 (drop n xs)) two

-- the two bytes of a pair
pub high_at : (cs : List (List ℕ)) (k : ℕ) (xs : List ℕ) (i : ℕ) (d : List ℕ) → cs ≡ first_chunks 2 k xs → i < k → get_or (get_or cs i d) 0 0 ≡ get_or xs (2 * i) 0
high_at cs k xs i d e h =
    ap (λ l. get_or (get_or l i d) 0 0) e ∙ ap (λ l. get_or l 0 0) (chunk_at k xs i d h) ∙ get_or-take 2 (drop (2 * i) xs) 0 0 (lit< tt) ∙ get_or-drop (2 * i) xs 0 0
    ∙ ap (λ n. get_or xs n 0) (add-zero (2 * i))

pub low_at : (cs : List (List ℕ)) (k : ℕ) (xs : List ℕ) (i : ℕ) (d : List ℕ) → cs ≡ first_chunks 2 k xs → i < k → get_or (get_or cs i d) 1 0 ≡ get_or xs (2 * i + 1) 0
low_at cs k xs i d e h =
    ap (λ l. get_or (get_or l i d) 1 0) e ∙ ap (λ l. get_or l 1 0) (chunk_at k xs i d h) ∙ get_or-take 2 (drop (2 * i) xs) 1 0 (lit< tt) ∙ get_or-drop (2 * i) xs 1 0

pub length_hex : (bs : List ℕ) → length (hex bs) ≡ 2 * length bs
length_hex [] = refl
length_hex (b ∷ bs) = omega (arith, length_hex bs)

-- bytes of an odd number write none
pub odd_length : (w : List ℕ) → 0 < length w % 2 → NoHex w
odd_length w h bs within e = omega (arith, length_hex bs, ap length e)

pair_of : (bs : List ℕ) (i : ℕ) → i < length bs → Bytes bs → (b : ℕ) × Pair b (get_or (hex bs) (2 * i) 0) (get_or (hex bs) (2 * i + 1) 0)
pair_of [] i h within = absurd (omega arith)
pair_of (b ∷ bs) zero h within = (b, (within.0, refl, refl))
pair_of (b ∷ bs) (suc i) h within =
    let high : suc (suc (2 * i)) ≡ 2 * suc i = omega arith in
    let low : suc (suc (2 * i + 1)) ≡ 2 * suc i + 1 = omega arith in
    let told = pair_of bs i (omega arith) within.1 in
    (told.0, (told.1.0, told.1.1 ∙ ap (λ n. get_or (hex (b ∷ bs)) n 0) high, told.1.2 ∙ ap (λ n. get_or (hex (b ∷ bs)) n 0) low))

-- nor do pairs of which one writes none
pub no_pair : (w : List ℕ) (i : ℕ) → 2 * i + 1 < length w → NoPair (get_or w (2 * i) 0) (get_or w (2 * i + 1) 0) → NoHex w
no_pair w i h none bs within e =
    let told = pair_of bs i (omega (arith, length_hex bs, ap length e)) within in
    none told.0 (told.1.0, told.1.1 ∙ ap (λ l. get_or l (2 * i) 0) e, told.1.2 ∙ ap (λ l. get_or l (2 * i + 1) 0) e)

abbrev pair : ℕ → List ℕ
pair b = hex_digit (b / 16) ∷ (hex_digit (b % 16) ∷ [])

take_two : (w : List ℕ) (i : ℕ) → 2 * i + 1 < length w →
    take (2 * (i + 1)) w ≡ take (2 * i) w ++ (get_or w (2 * i) 0 ∷ (get_or w (2 * i + 1) 0 ∷ []))
take_two w i h =
    let e : 2 * (i + 1) ≡ 2 * i + 1 + 1 = omega arith in
    ap (λ n. take n w) e ∙ take_more w (2 * i + 1) 0 h ∙ ap (λ l. l ++ (get_or w (2 * i + 1) 0 ∷ [])) (take_more w (2 * i) 0 (omega arith))
    ∙ append_assoc (take (2 * i) w) (get_or w (2 * i) 0 ∷ []) (get_or w (2 * i + 1) 0 ∷ [])

bytes_push : (xs : List ℕ) (b : ℕ) → Bytes xs → b < 256 → Bytes (xs ++ (b ∷ []))
bytes_push [] b h k = (k, tt)
bytes_push (x ∷ xs) b h k = (h.0, bytes_push xs b h.1 k)

-- one pair more of a word
pub added_more : (w before items after : List ℕ) (i b : ℕ) → after ≡ items ++ (b ∷ []) → 2 * i + 1 < length w → b < 256 →
    hex_digit (b / 16) ≡ get_or w (2 * i) 0 → hex_digit (b % 16) ≡ get_or w (2 * i + 1) 0 →
    Added (take (2 * i) w) before items → Added (take (2 * (i + 1)) w) before after
added_more w before items after i b e h k high low a = record {
  bytes = a.bytes ++ (b ∷ []);
  within = bytes_push a.bytes b a.within k;
  writes = sym (flat_map_more pair [] a.bytes b) ∙ (λ t. a.writes t ++ (high t ∷ (low t ∷ []))) ∙ sym (take_two w i h);
  joins = e ∙ ap (λ l. l ++ (b ∷ [])) a.joins ∙ append_assoc before a.bytes (b ∷ []);
}
