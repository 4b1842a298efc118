-- Bytes 00.
use Rattle.std.proofs.Common.{slice_set, ◌≡◌, ℕ, ◌+◌, ◌-◌, ◌<◌, ◌≤◌, ◌*◌, ◌/◌, ◌%◌, List, [], ◌∷◌, ◌++◌, length, get_or, drop, replicate, Some, None, Option, sym, refl, ap, ◌∙◌, arith}
use Rattle.std.proofs.lemmas.List.{length-replicate, get_or-replicate, same_lists, length-drop}
use Rattle.std.specs.List.{AllWithin, HoldsAt}
use Rattle.std.specs.Option.{MatchOption}
use Rattle.layout.specs.Pages.{head, zeros, FirstNonzero}

all_zero : (xs : List ℕ) → AllWithin (λ b. b ≡ 0) xs 0 (length xs) → xs ≡ replicate (length xs) 0
all_zero xs h = same_lists xs (replicate (length xs) 0) (sym (length-replicate {A = ℕ} (length xs) 0)) (λ k d l. h k d (omega arith) l ∙ sym (get_or-replicate (length xs) k 0 d l))

pub nonzero_first : (xs : List ℕ) (r : Option ℕ) → MatchOption r (AllWithin (λ b. b ≡ 0) xs 0 (length xs)) (λ i. (i < length xs) × HoldsAt (λ b. b ≡ 0 → ⊥) xs i × AllWithin (λ b. b ≡ 0) xs 0 i) →
    FirstNonzero xs r
nonzero_first xs None h = all_zero xs h
nonzero_first xs (Some i) h = (h.0, λ k l. h.2 k 0 (omega arith) l, h.1 0)

-- the zeros behind cells
pub zeros_behind : (len n : ℕ) (cells : List ℕ) → n ≡ len - 4 - length cells → replicate n 0 ≡ zeros len cells
unfolding zeros
zeros_behind len n cells q = ap (λ m. replicate m 0) (omega arith)

-- four bytes, all of them set
pub four_set : (xs : List ℕ) (a b c d : ℕ) → length xs ≡ 4 → slice_set (slice_set (slice_set (slice_set xs 0 a) 1 b) 2 c) 3 d ≡ a ∷ b ∷ c ∷ d ∷ []
four_set [] a b c d h = absurd (omega arith)
four_set (x ∷ []) a b c d h = absurd (omega arith)
four_set (x ∷ y ∷ []) a b c d h = absurd (omega arith)
four_set (x ∷ y ∷ z ∷ []) a b c d h = absurd (omega arith)
four_set (x ∷ y ∷ z ∷ w ∷ []) a b c d h = refl
four_set (x ∷ y ∷ z ∷ w ∷ v ∷ r) a b c d h = absurd (omega arith)

-- the four bytes of the head
pub four : (page : List ℕ) → 4 ≤ length page → page ≡ get_or page 0 0 ∷ get_or page 1 0 ∷ get_or page 2 0 ∷ get_or page 3 0 ∷ drop 4 page
four [] h = absurd (omega arith)
four (a ∷ []) h = absurd (omega arith)
four (a ∷ b ∷ []) h = absurd (omega arith)
four (a ∷ b ∷ c ∷ []) h = absurd (omega arith)
four (a ∷ b ∷ c ∷ d ∷ r) h = refl

-- the head of a free page, and the rest
pub free_head : (page : List ℕ) (n : ℕ) → 4 ≤ length page → get_or page 0 0 ≡ 192 → get_or page 1 0 ≡ 0 → get_or page 2 0 < 256 → get_or page 3 0 < 256 →
    n ≡ get_or page 2 0 * 256 + get_or page 3 0 → page ≡ head 3 0 n ++ drop 4 page
free_head page n h a b c d q =
    let e : get_or page 2 0 ≡ n / 256 = omega arith in
    let f : get_or page 3 0 ≡ n % 256 = omega arith in
    four page h ∙ ap (λ x. x ∷ get_or page 1 0 ∷ get_or page 2 0 ∷ get_or page 3 0 ∷ drop 4 page) a ∙ ap (λ x. 192 ∷ x ∷ get_or page 2 0 ∷ get_or page 3 0 ∷ drop 4 page) b
    ∙ ap (λ x. 192 ∷ 0 ∷ x ∷ get_or page 3 0 ∷ drop 4 page) e ∙ ap (λ x. 192 ∷ 0 ∷ n / 256 ∷ x ∷ drop 4 page) f

pub rest_zero : (page : List ℕ) → drop 4 page ≡ replicate (length (drop 4 page)) 0 → drop 4 page ≡ zeros (length page) []
unfolding zeros
rest_zero page e = e ∙ ap (λ n. replicate n 0) (length-drop 4 page)
