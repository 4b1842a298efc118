-- How the bytes at one place of two strings compare, where each may have ended.
use Rattle.std.proofs.Common.{◌≡◌, ◌≢◌, ℕ, ◌+◌, ◌<◌, ◌≤◌, List, Bool, true, false, Option, Some, None, Ordering, Less, Equal, Greater, MatchOption, MatchBool, sym, subst, length, slice_index, take, arith, unwrap_or, option_map, get_or}
use Rattle.std.specs.Option.{option_partial_cmp}
use Rattle.std.specs.Ordering.{partial_lt, is_lt, nat_cmp, MatchOrdering}
use Rattle.std.specs.Bool.{OnTrue}
use Rattle.std.specs.Cmp.{ranks}
use denote.Ref.{Bor}
use Rattle.separators.specs.Separators.{HaveInCommon, UpTo, IsSeparator, Separates, in_common}
use Rattle.separators.proofs.Fronts.{have_in_common}
use Rattle.codes.specs.Strings.{Less as Earlier}
use Rattle.separators.proofs.Cuts.{rises, falls, cut, goes_on, separator_separates}

-- what `get` finds there
abbrev pub Look : List ℕ → ℕ → Option (Bor ℕ) → Type 0
Look a n o = MatchOption o (length a ≤ n) (λ x. (n < length a) × (x.now ≡ slice_index a n))

-- as `get` says it
pub look : (P : Bor ℕ → Type 0) (a : List ℕ) (n : ℕ) (o : Option (Bor ℕ)) → MatchOption o (length a ≤ n) (λ x. (n < length a) × P x) →
    ((d : ℕ) → unwrap_or (option_map (λ x. x.now) o) d ≡ get_or a n d) → Look a n o
look P a n None h g = h
look P a n (Some x) h g = (h.0, g 0)

abbrev pub is_below : Option (Bor ℕ) → Option (Bor ℕ) → Bool
is_below o p = partial_lt (option_partial_cmp (λ x y. Some (nat_cmp x.now y.now))) o p

below : (x y : ℕ) (o : Ordering) → MatchOrdering o (x < y) (x ≡ y) (y < x) → is_lt o ≡ true → x < y
below x y Less h e = h
below x y Equal h e = absurd cc
below x y Greater h e = absurd cc

not_below : (x y : ℕ) (o : Ordering) → MatchOrdering o (x < y) (x ≡ y) (y < x) → is_lt o ≡ false → y ≤ x
not_below x y Less h e = absurd cc
not_below x y Equal h e = omega arith
not_below x y Greater h e = omega arith

rises_at : (a b : List ℕ) (n : ℕ) (o p : Option (Bor ℕ)) → HaveInCommon a b n → Look a n o → Look b n p → is_below o p ≡ true → Earlier a b
rises_at a b n None None c h g e = absurd cc
rises_at a b n None (Some y) c h g e = rises a b n c g.0 (λ q. absurd (omega (arith, h, q)))
rises_at a b n (Some x) None c h g e = absurd cc
rises_at a b n (Some x) (Some y) c h g e =
    rises a b n c g.0 (λ q. let l = below x.now y.now (nat_cmp x.now y.now) (ranks x.now y.now) e in omega (arith, h.1, g.1, l))

falls_at : (a b : List ℕ) (n : ℕ) (o p : Option (Bor ℕ)) → HaveInCommon a b n → Look a n o → Look b n p → is_below o p ≡ false →
    n < length b → (n < length a) × (slice_index b n < slice_index a n)
falls_at a b n o None c h g e q = absurd (omega (arith, g, q))
falls_at a b n None (Some y) c h g e q = absurd cc
falls_at a b n (Some x) (Some y) c h g e q =
    let l = not_below x.now y.now (nat_cmp x.now y.now) (ranks x.now y.now) e in
    let d : slice_index a n ≢ slice_index b n = c.differ h.0 q in (h.0, omega (arith, h.1, g.1, l, d))

-- what the comparison tells
pub record Told (a b : List ℕ) (n : ℕ) (r : Bool) : Type 0 where
  pub order : MatchBool r (n < length b) (UpTo b a)
  pub shortest : OnTrue r (IsSeparator a b (take (n + 1) b))
  pub between : OnTrue r (Separates a b (take (n + 1) b))

pub told : (a b : List ℕ) (n : ℕ) (o p : Option (Bor ℕ)) (r : Bool) → n ≡ in_common a b → Look a n o → Look b n p → r ≡ is_below o p → Told a b n r
told a b n o p r q h g e = at r (subst (λ (m : ℕ). HaveInCommon a b m) (sym q) (have_in_common a b)) e
  where
    at : (r : Bool) → HaveInCommon a b n → r ≡ is_below o p → Told a b n r
    at true c e =
        let l = rises_at a b n o p c h g (sym e) in
        let s = cut a b n c l in record { order = goes_on a b n c l; shortest = s; between = separator_separates a b (take (n + 1) b) s }
    at false c e = record { order = falls a b n c (falls_at a b n o p c h g (sym e)); shortest = tt; between = tt }
