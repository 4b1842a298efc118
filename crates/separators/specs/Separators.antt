-- Separators of keys as bytes, as in the prefix B-trees of Bayer and Unterauer.
use Rattle.std.specs.Prelude.{◌≡◌, ◌≢◌, ◌==◌, ℕ, ◌<◌, ◌≤◌, ◌⊎◌, List, length, take, take_while, slice_index}
use Rattle.std.specs.List.{zip}
use Rattle.codes.specs.Strings.{Less, Begins}

-- how many bytes a and b have in common at the front
abbrev pub in_common : List ℕ → List ℕ → ℕ
in_common a b = length (take_while (λ p. p.0 == p.1) (zip a b))

-- a and b have their first n bytes in common, and no more: there they differ, or one of them ends
pub record HaveInCommon (a b : List ℕ) (n : ℕ) : Type 0 where
  pub in_left : n ≤ length a
  pub in_right : n ≤ length b
  pub same : take n a ≡ take n b
  pub differ : n < length a → n < length b → slice_index a n ≢ slice_index b n

-- a is b, or stands before it
abbrev pub UpTo : List ℕ → List ℕ → Type 0
UpTo a b = (a ≡ b) ⊎ Less a b

-- s is the shortest beginning of b that stands behind a
pub record IsSeparator (a b s : List ℕ) : Type 0 where
  pub begins : Begins s b
  pub above : Less a s
  pub shortest : (t : List ℕ) → Begins t b → Less a t → length s ≤ length t

-- s stands between a and b: strings up to a stand before it, and none from b on does
pub record Separates (a b s : List ℕ) : Type 0 where
  pub left : (k : List ℕ) → UpTo k a → Less k s
  pub right : (k : List ℕ) → UpTo b k → UpTo s k
