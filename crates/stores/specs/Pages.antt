-- What a page store holds.
use Rattle.std.specs.Prelude.{ℕ, List}

-- a page: its bytes, or the mark that it is damaged
pub data Page : Type 0 where
  sound : List ℕ → Page
  damaged : Page
