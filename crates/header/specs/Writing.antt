-- What the writing of a header leaves.
use Rattle.std.specs.Prelude.{◌≡◌, ℕ, ◌<◌, ◌≤◌, List, length, Ok, Err, Result}
use Rattle.header.specs.declared.head.Header.{Header}
use Rattle.header.specs.declared.writing.ShortPage.{ShortPage}
use Rattle.header.specs.Headers.{header_bytes, InFields}

-- the page is the header's; one shorter than 18 bytes stays as it was
abbrev pub HeaderWritten : Header → List ℕ → List ℕ → Result (Unit {0}) ShortPage → Type 0
HeaderWritten h before after (Ok u) = (18 ≤ length before) × (after ≡ header_bytes (length before) h) × InFields h
HeaderWritten h before after (Err short) = (length before < 18) × (after ≡ before)
