-- The edit bit.
use Rattle.std.specs.Prelude.{◌≡◌, ℕ, ◌+◌, ◌*◌, ◌/◌, Bool, cond, List, length, slice_index_or, slice_set}
use Rattle.header.specs.declared.head.Header.{Header}
use Rattle.header.specs.Headers.{header_bytes, InFields}

-- the page with this edit bit, the lowest of byte 1
abbrev pub with_edit : Bool → List ℕ → List ℕ
with_edit is_open page = slice_set page 1 (slice_index_or page 1 0 / 2 * 2 + cond is_open 1 0)

-- a header's page is then the page of that header with this edit bit
unfoldable pub EditSet : Bool → List ℕ → List ℕ → Type 0
EditSet is_open before after = (h : Header) → InFields h → before ≡ header_bytes (length before) h → after ≡ header_bytes (length before) (record h { edit_open = is_open })
