-- What a call answers.
use Rattle.std.specs.Prelude.{ℕ, List, Ok, Err, Result}

-- a result, or a refusal: its number and the values that stand beside it
pub data Answer (A : Type 0) : Type 0 where
  gives : A → Answer A
  refuses : ℕ → List ℕ → Answer A

-- a fault's number, and the values beside it
abbrev pub Told : Type 0
Told = ℕ × List ℕ

-- the answer that a Result stands for, where each fault tells its number and values
abbrev pub answer : {A F : Type 0} → (F → Told) → Result A F → Answer A
answer told (Ok x) = gives x
answer told (Err f) = refuses (told f).0 (told f).1

-- the same, with the result taken for what it means
abbrev pub answer_as : {A B F : Type 0} → (A → B) → (F → Told) → Result A F → Answer B
answer_as means told (Ok x) = gives (means x)
answer_as means told (Err f) = refuses (told f).0 (told f).1
