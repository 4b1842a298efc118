-- What the bytes of headers tell.
use Rattle.std.specs.Prelude.{◌≡◌, ℕ, List, length, None}
use Rattle.keys.specs.Means.{directions_of}
use Rattle.header.specs.declared.head.Header.{Header}
use Rattle.header.specs.Headers.{numbers, header_bytes, InFields}
use Rattle.header.specs.Reading.{Fits, header_fault}

-- two headers tell the same
abbrev pub Same : Header → Header → Type 0
Same h g = (numbers h ≡ numbers g) × (directions_of h.plan ≡ directions_of g.plan)

-- no two headers have the same page
unfoldable pub OneHeader : Type 0
OneHeader = (len : ℕ) (h g : Header) → InFields h → InFields g → header_bytes len h ≡ header_bytes len g → Same h g

-- the page of a header that fits its file has no fault
unfoldable pub NoFault : ℕ → ℕ → List ℕ → Type 0
NoFault n l page = (h : Header) → InFields h → page ≡ header_bytes (length page) h → Fits n l h → header_fault n l page ≡ None
