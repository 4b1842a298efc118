-- Bytes as a reader sees them.
use Rattle.std.proofs.Common.{◌≡◌, ℕ, ◌-◌, ◌<◌, ◌≤◌, min, Bool, true, false, not, List, [], ◌∷◌, length, get_or, take, drop, sym, refl, ap, ◌∙◌, inl, inr, arith, length-drop, w8, Fits}
use Rattle.std.specs.List.{AllByRecursion}
use Rattle.std.proofs.ByRecursion.{All-from_get_or}
use Rattle.std.proofs.lemmas.List.{get_or-map, length-map, take-map, take_all, drop_all, drop-map}
use Rattle.std.proofs.lemmas.Bool.{cases_lt}
use Rattle.codes.specs.Strings.{Bytes, flip, flipped}
use Rattle.codes.specs.Sources.{see_as, seen_as}
use Rattle.codes.specs.Orders.{flipped_twice}

pub bytes_from : (xs : List ℕ) → AllByRecursion (λ x. x < 256) xs → Bytes xs
bytes_from [] h = tt
bytes_from (x ∷ xs) h = (h.0, bytes_from xs h.1)

-- the elements of a slice of bytes are bytes
pub bytes_typed : (xs : List ℕ) → ((i : ℕ) → Fits w8 (get_or xs i 0)) → Bytes xs
bytes_typed xs f = bytes_from xs (All-from_get_or (λ x. x < 256) xs 0 (λ i h. let g : get_or xs i 0 < 256 = (f i).fits in g))

pub length_seen : (f : Bool) (xs : List ℕ) → length (seen_as f xs) ≡ length xs
length_seen false xs = refl
length_seen true xs = length-map xs flip

pub get_or_seen : (f : Bool) (xs : List ℕ) (i : ℕ) → i < length xs → get_or (seen_as f xs) i 0 ≡ see_as f (get_or xs i 0)
get_or_seen false xs i h = refl
get_or_seen true xs i h = get_or-map flip xs i 0 0 h

-- a byte as it is seen stands at its place in the bytes as they are seen
pub seen_at : (f : Bool) (xs : List ℕ) (i x : ℕ) → i < length xs → x ≡ see_as f (get_or xs i 0) → (i < length (seen_as f xs)) × (get_or (seen_as f xs) i 0 ≡ x)
seen_at f xs i x h e = (omega (arith, length_seen f xs), get_or_seen f xs i h ∙ sym e)

pub take_seen : (f : Bool) (n : ℕ) (xs : List ℕ) → take n (seen_as f xs) ≡ seen_as f (take n xs)
take_seen false n xs = refl
take_seen true n xs = take-map flip n xs

-- the other way to see the same bytes
pub turn_seen : (f : Bool) (xs : List ℕ) → Bytes xs → seen_as (not f) xs ≡ flipped (seen_as f xs)
turn_seen false xs h = refl
turn_seen true xs h = sym (flipped_twice xs h)

pub back_seen : (f : Bool) (xs : List ℕ) → Bytes xs → seen_as f xs ≡ flipped (seen_as (not f) xs)
back_seen false xs h = sym (flipped_twice xs h)
back_seen true xs h = refl

-- what stands behind the first bytes
pub skip_seen : (f : Bool) (xs rest : List ℕ) (n m : ℕ) → m ≡ min n (length xs) → rest ≡ take (length xs - m) (drop m xs) → seen_as f rest ≡ drop n (seen_as f xs)
skip_seen f xs rest n m e q =
    let l : length (drop m xs) ≤ length xs - m = simp length-drop (omega arith) in
    let r : rest ≡ drop n xs = q ∙ take_all (length xs - m) (drop m xs) l ∙ clip in at f r
  where
    clip : drop m xs ≡ drop n xs
    clip = elim (cases_lt n (length xs)) [
      | inl h ↦ let w : m ≡ n = omega arith in rw w refl
      | inr h ↦ rw (drop_all m xs (omega arith), drop_all n xs h) refl
    ]

    at : (f : Bool) → rest ≡ drop n xs → seen_as f rest ≡ drop n (seen_as f xs)
    at false r = r
    at true r = ap flipped r ∙ sym (drop-map flip n xs)
