-- Reading a decimal: its head, then its digits.
use Rattle.std.proofs.Common.{◌≡◌, ℕ, zero, suc, ◌+◌, ◌<◌, List, [], ◌∷◌, ◌++◌, length, get_or, drop, ℤ, sym, refl, ap, subst, arith}
use Rattle.codes.specs.declared.sign.Sign.{Sign}
use Rattle.codes.specs.Strings.{Begins}
use Rattle.codes.specs.Decimals.{Number, naught, amount, Shaped}
use Rattle.codes.specs.Codes.{body_of, number_code}
use Rattle.codes.specs.Leads.{AreDigits, InRange, head_bytes}
use Rattle.codes.specs.Reading.{Starts, Stops}
use Rattle.codes.proofs.Heads.{head_free, head_full}
use Rattle.codes.proofs.Readings.{Joint, joint, seq_first, seq_second, head_stops}

abbrev Parts : Type 0
Parts = (Sign × ℤ) × List ℕ

abbrev Whole : Parts → Type 0
Whole = Joint InRange head_bytes (λ q. AreDigits) (λ q. body_of q.0) head_free

abbrev bytes : Parts → List ℕ
bytes = joint InRange head_bytes (λ q. AreDigits) (λ q. body_of q.0) head_free

keeps : (p : Parts) → Whole p → Shaped (amount p.0.0 p.0.1 p.1) × (number_code (amount p.0.0 p.0.1 p.1) ≡ bytes p)
keeps p w = (record { range = w.0; row = w.1.0; trim = w.1.1 }, refl)

-- the code of every decimal has a first byte
pub number_full : (n : Number) → (y : ℕ) × (ys : List ℕ) × (number_code n ≡ y ∷ ys)
number_full naught = (0x15, [], refl)
number_full (amount s e ds) =
    let f = head_full (s, e) in (f.0, f.1 ++ body_of s ds, ap (λ z. z ++ body_of s ds) f.2)

from : (x : ℕ) → (x ≡ 0x15 → ⊥) → (n : Number) → Shaped n → (ys : List ℕ) → number_code n ≡ x ∷ ys → (p : Parts) × (Whole p × (bytes p ≡ number_code n))
from x no15 naught c ys h = absurd (no15 (let e : 0x15 ≡ x = cc in sym e))
from x no15 (amount s e ds) c ys h = (((s, e), ds), ((c.range, (c.row, c.trim)), refl))

some_digits : (q : Sign × ℤ) → InRange q → (ds : List ℕ) × AreDigits ds
some_digits q r = (1 ∷ [], ((omega arith, omega arith, at), (omega arith, omega arith)))
  where
    at : (k : ℕ) → k < 1 → get_or (1 ∷ []) k 0 < 100
    at zero h = omega arith
    at (suc k) h = absurd (omega arith)

module _ (x : ℕ) (xs : List ℕ) (no15 : x ≡ 0x15 → ⊥) where
  stopped : (p : ℕ) → Stops Whole bytes (x ∷ xs) p → Stops Shaped number_code (x ∷ xs) p
  stopped p s =
      head_stops Whole bytes Shaped number_code (λ q. amount q.0.0 q.0.1 q.1) keeps x xs p (λ n c. number_full n) (from x no15) s

  pub amount_first : (p : ℕ) → Stops InRange head_bytes (x ∷ xs) p → Stops Shaped number_code (x ∷ xs) p
  amount_first p s = stopped p (seq_first InRange head_bytes (λ q. AreDigits) (λ q. body_of q.0) head_free (x ∷ xs) p some_digits s)

  pub amount_second : (s : Sign) (e : ℤ) (n p : ℕ) → Starts InRange head_bytes (x ∷ xs) (s, e) n → Stops AreDigits (body_of s) (drop n (x ∷ xs)) p →
      Stops Shaped number_code (x ∷ xs) (n + p)
  amount_second s e n p h t =
      stopped (n + p) (seq_second InRange head_bytes (λ q. AreDigits) (λ q. body_of q.0) head_free (x ∷ xs) (s, e) n p h t)

pub number_none : Stops Shaped number_code [] 0
number_none = (none, omega arith, (naught, (tt, (0x15 ∷ [], refl))), λ l. absurd (omega arith))
  where
    none : (n : Number) → Shaped n → Begins (number_code n) [] → ⊥
    none n c b = let f = number_full n in
        let z = subst (λ (u : List ℕ). u ++ b.0 ≡ []) f.2 b.1 in let w = ap length z in omega arith
