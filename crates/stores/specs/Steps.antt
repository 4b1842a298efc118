-- Proofs for those who call a page store: what each answer of `read` and `write` tells, and which answer must come.
use Rattle.std.specs.Prelude.{◌≡◌, ℕ, ◌<◌, ◌≤◌, ◌⊎◌, List, ◌++◌, length, get_or, take, drop, Ok, Err, Result, ◌≢◌, slice_index_or, slice_set, refl}
use Rattle.std.proofs.Common.{inl, inr, arith}
use Rattle.std.proofs.lemmas.Bool.{cases_lt, cases_eq}
use Rattle.std.proofs.lemmas.List.{take_at, length-set, get_or-set_same, get_or-set_other}
use Rattle.refusals.specs.Answer.{answer}
use Rattle.stores.specs.declared.fault.StoreFault.{StoreFault}
use Rattle.stores.specs.declared.fault.StoreFault.TheVariants.{NoSuchPage, WrongLength, Damaged}
use Rattle.stores.specs.Pages.{Page, sound, damaged}
use Rattle.stores.specs.Faults.{store_told}
use Rattle.stores.specs.Calls.{read_answer, read_buffer, write_answer, write_pages}

pub page_cases : (x : Page) → ((b : List ℕ) × (x ≡ sound b)) ⊎ (x ≡ damaged)
page_cases (sound b) = inl (b, refl)
page_cases damaged = inr refl

-- what a read that was accepted tells
pub record Read (len : ℕ) (pages : List Page) (p : ℕ) (buf out : List ℕ) : Type 0 where
  pub bytes : List ℕ
  pub within : p < length pages
  pub room : len ≤ length buf
  pub page : get_or pages p damaged ≡ sound bytes
  pub sized : length bytes ≡ len
  pub whole : out ≡ bytes ++ drop len buf
  pub front : take len out ≡ bytes

-- why a read was refused
pub data Unread (len : ℕ) (pages : List Page) (p m : ℕ) (e : StoreFault) : Type 0 where
  no_page : e ≡ NoSuchPage p → length pages ≤ p → Unread len pages p m e
  no_room : e ≡ WrongLength → p < length pages → m < len → Unread len pages p m e
  torn : e ≡ Damaged p → p < length pages → len ≤ m → slice_index_or pages p damaged ≡ damaged → Unread len pages p m e

-- what a write that was accepted tells
pub record Written (len : ℕ) (pages : List Page) (p : ℕ) (bytes : List ℕ) (after : List Page) : Type 0 where
  pub within : p < length pages
  pub sized : length bytes ≡ len
  pub put : after ≡ slice_set pages p (sound bytes)

-- the page that was written, the others, and their number
pub written_here : (len : ℕ) (pages : List Page) (p : ℕ) (bytes : List ℕ) (after : List Page) → Written len pages p bytes after →
    slice_index_or after p damaged ≡ sound bytes
written_here len pages p bytes after w = rw w.put (get_or-set_same pages p (sound bytes) damaged w.within)

pub written_other : (len : ℕ) (pages : List Page) (p : ℕ) (bytes : List ℕ) (after : List Page) → Written len pages p bytes after →
    (k : ℕ) → (k ≢ p) → slice_index_or after k damaged ≡ slice_index_or pages k damaged
written_other len pages p bytes after w k d = rw w.put (get_or-set_other pages p k (sound bytes) damaged d)

pub written_count : (len : ℕ) (pages : List Page) (p : ℕ) (bytes : List ℕ) (after : List Page) → Written len pages p bytes after →
    length after ≡ length pages
written_count len pages p bytes after w = rw w.put (length-set pages p (sound bytes))

-- why a write was refused
pub data Unwritten (len : ℕ) (pages : List Page) (p m : ℕ) (e : StoreFault) : Type 0 where
  no_page : e ≡ NoSuchPage p → length pages ≤ p → Unwritten len pages p m e
  no_fit : e ≡ WrongLength → p < length pages → (m ≢ len) → Unwritten len pages p m e

module _ (len : ℕ) (pages : List Page) (p : ℕ) where
  -- the law `sized` of a store goes in as `sized`
  pub read_ok : (buf out : List ℕ) (u : Unit {0}) → ((b : List ℕ) → slice_index_or pages p damaged ≡ sound b → length b ≡ len) →
      answer store_told (Ok u) ≡ read_answer len pages p (length buf) → out ≡ read_buffer len pages p buf →
      Read len pages p buf out
  read_ok buf out u sized a o =
      elim (page_cases (slice_index_or pages p damaged)) [
        | inl (b, e) ↦ let l = sized b e in
            record {
              bytes = b;
              within = grind arith;
              room = grind arith;
              page = e;
              sized = l;
              whole = grind arith;
              front = grind (arith, take_at);
            }
        | inr e ↦ absurd (grind arith)
      ]

  pub read_err : (buf out : List ℕ) (e : StoreFault) → answer {A = Unit {0}} store_told (Err e) ≡ read_answer len pages p (length buf) →
      out ≡ read_buffer len pages p buf → (out ≡ buf) × Unread len pages p (length buf) e
  read_err buf out e a o =
      elim (cases_lt p (length pages)) [
        | inl h ↦ elim (cases_lt (length buf) len) [
          | inl m ↦ (grind arith, no_room (grind arith) h m)
          | inr m ↦ elim (page_cases (slice_index_or pages p damaged)) [
            | inl (b, x) ↦ absurd (grind arith)
            | inr x ↦ (grind arith, torn (grind arith) h m x)
          ]
        ]
        | inr h ↦ (grind arith, no_page (grind arith) h)
      ]

  -- a read of a sound page into a buffer with room is accepted
  pub read_sure : (buf b out : List ℕ) (r : Result (Unit {0}) StoreFault) → p < length pages → len ≤ length buf →
      slice_index_or pages p damaged ≡ sound b → answer store_told r ≡ read_answer len pages p (length buf) →
      out ≡ read_buffer len pages p buf → (r ≡ Ok tt) × (out ≡ b ++ drop (length b) buf)
  read_sure buf b out r h m e a o = (grind arith, grind arith)

  pub write_ok : (bytes : List ℕ) (after : List Page) (u : Unit {0}) → answer store_told (Ok u) ≡ write_answer len pages p (length bytes) →
      after ≡ write_pages len pages p bytes → Written len pages p bytes after
  write_ok bytes after u a w =
      record { within = grind arith; sized = grind arith; put = grind arith }

  pub write_err : (bytes : List ℕ) (after : List Page) (e : StoreFault) →
      answer {A = Unit {0}} store_told (Err e) ≡ write_answer len pages p (length bytes) →
      after ≡ write_pages len pages p bytes → (after ≡ pages) × Unwritten len pages p (length bytes) e
  write_err bytes after e a w =
      elim (cases_lt p (length pages)) [
        | inl h ↦ elim (cases_eq (length bytes) len) [
          | inl l ↦ absurd (grind arith)
          | inr l ↦ (grind arith, no_fit (grind arith) h l)
        ]
        | inr h ↦ (grind arith, no_page (grind arith) h)
      ]

  -- a write of one page's bytes to a page that is there is accepted
  pub write_sure : (bytes : List ℕ) (after : List Page) (r : Result (Unit {0}) StoreFault) → p < length pages → length bytes ≡ len →
      answer store_told r ≡ write_answer len pages p (length bytes) → after ≡ write_pages len pages p bytes →
      (r ≡ Ok tt) × Written len pages p bytes after
  write_sure bytes after r h l a w =
      (grind arith, record { within = h; sized = l; put = grind arith })
