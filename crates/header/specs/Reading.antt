-- What the reading of a header page answers.
use Rattle.std.specs.Prelude.{◌≡◌, ℕ, ◌+◌, ◌-◌, ◌%◌, ◌^◌, ◌<◌, ◌≤◌, Bool, true, false, cond, ◌&&◌, List, [], ◌∷◌, length, drop, Some, None, Option, Ok, Err, Result, ◌==◌, nat_le, nat_lt, slice_index_or}
use Rattle.std.specs.List.{list_all}
use Rattle.header.specs.declared.head.Header.{Header}
use Rattle.header.specs.declared.fault.HeaderFault.{HeaderFault}
use Rattle.header.specs.declared.fault.HeaderFault.TheVariants.{Field, EditOpen}
use Rattle.header.specs.Headers.{widths, header_bytes, InFields}
use Rattle.header.specs.Fields.{numbers_in}

-- whether all bytes are 00
abbrev pub blank : List ℕ → Bool
blank bytes = list_all (λ b. b == 0) bytes

-- whether each field's number is right, in a file of n pages of length l, where the page tells c columns and is blank behind the fields, or not
abbrev pub field_tests : ℕ → ℕ → ℕ → Bool → List (ℕ → Bool)
field_tests n l c is_blank =
    (λ mark. mark == 2652)
    ∷ (λ version. version == 1)
    ∷ (λ edit. true)
    ∷ (λ pages. pages == n)
    ∷ (λ page_len. page_len == l)
    ∷ (λ levels. nat_le 1 levels)
    ∷ (λ columns. nat_le 1 columns && nat_le columns 8)
    ∷ (λ directions. directions % 2 ^ (8 - c) == 0)
    ∷ (λ root. nat_le 1 root && nat_lt root n)
    ∷ (λ first_free. nat_lt first_free n)
    ∷ (λ free_pages. true)
    ∷ (λ rows. true)
    ∷ (λ zero. zero == 0 && is_blank)
    ∷ []

-- the first field from this bit on whose number is wrong, by its first bit
abbrev pub first_wrong : ℕ → List ℕ → List (ℕ → Bool) → List ℕ → Option ℕ
first_wrong bit [] ts vs = None
first_wrong bit (w ∷ ws) [] vs = None
first_wrong bit (w ∷ ws) (t ∷ ts) [] = None
first_wrong bit (w ∷ ws) (t ∷ ts) (v ∷ vs) = cond (t v) (first_wrong (bit + w) ws ts vs) (Some bit)

-- a wrong field; else an open edit; else none
abbrev pub field_or_edit : Option ℕ → ℕ → Option HeaderFault
field_or_edit (Some bit) edit = Some (Field bit)
field_or_edit None edit = cond (edit == 0) None (Some EditOpen)

-- the fault of fields that hold these numbers, in a file of n pages of length l
unfoldable pub numbers_fault : ℕ → ℕ → List ℕ → Bool → Option HeaderFault
numbers_fault n l vs is_blank = field_or_edit (first_wrong 0 widths (field_tests n l (slice_index_or vs 6 0) is_blank) vs) (slice_index_or vs 2 0)

-- the fault that a call refuses by, if it does
abbrev pub fault_in : {A F : Type 0} → Result A F → Option F
fault_in (Ok x) = None
fault_in (Err f) = Some f

-- the fault of a page as the header of a file of n pages of length l, if it has one; a page shorter than a header has no mark
abbrev pub header_fault : ℕ → ℕ → List ℕ → Option HeaderFault
header_fault n l page = cond (nat_lt (length page) 18) (Some (Field 0)) (numbers_fault n l (numbers_in page) (blank (drop 18 page)))

-- a header fits a file of n pages of length l that is at rest
pub record Fits (n l : ℕ) (h : Header) : Type 0 where
  pub pages : h.pages ≡ n
  pub page_len : h.page_len ≡ l
  pub levels : 1 ≤ h.levels
  pub root : 1 ≤ h.root
  pub root_within : h.root < n
  pub first_free : h.first_free < n
  pub at_rest : h.edit_open ≡ false

-- the header that the page has the bytes of, or the page's fault
abbrev pub HeaderRead : ℕ → ℕ → List ℕ → Result Header HeaderFault → Type 0
HeaderRead n l page (Ok h) = (page ≡ header_bytes (length page) h) × InFields h × Fits n l h
HeaderRead n l page (Err f) = header_fault n l page ≡ Some f
