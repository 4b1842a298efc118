-- What a column code promises.
use Rattle.std.specs.Prelude.{◌≡◌, ℕ, ◌-◌, ◌^◌, ◌<◌, ◌≤◌, min, Bool, true, false, ◌⊎◌, List, ◌++◌, length, drop, Some, None, Option}
use Rattle.codes.specs.Strings.{Less, Begins, Bytes}

-- The laws of a code: the values m with `Coded m` have bytes, and any two of them compare.
pub record Laws {M : Type 0} (Coded : M → Type 0) (bytes : M → List ℕ) (less : M → M → Type 0) : Type 0 where
  -- a code is made of bytes
  pub within : (m : M) → Coded m → Bytes (bytes m)
  -- of two different values one is the smaller
  pub total : (m n : M) → Coded m → Coded n → less m n ⊎ ((m ≡ n) ⊎ less n m)
  -- the smaller value has the smaller bytes
  pub rises : (m n : M) → Coded m → Coded n → less m n → Less (bytes m) (bytes n)
  -- equal bytes mean equal values
  pub same : (m n : M) → Coded m → Coded n → bytes m ≡ bytes n → m ≡ n
  -- no value's bytes begin those of a different one
  pub free : (m n : M) → Coded m → Coded n → Begins (bytes m) (bytes n) → m ≡ n

-- a length, as far as a usize can tell it
abbrev pub counted : ℕ → ℕ
counted n = min n (2 ^ 64 - 1)

-- the length of a value's code, or none where the value is not clean
abbrev pub Measured : Bool → Type 0 → List ℕ → Option ℕ → Type 0
Measured ok C code None = ok ≡ false
Measured ok C code (Some n) = (ok ≡ true) × C × (n ≡ counted (length code))

-- the code at the front of an output and its length, or none and the output as it was where there is no room
abbrev pub Put : List ℕ → List ℕ → List ℕ → Option ℕ → Type 0
Put code before after None = (length before < length code) × (after ≡ before)
Put code before after (Some n) = (n ≡ length code) × (n ≤ length before) × (after ≡ code ++ drop n before)
