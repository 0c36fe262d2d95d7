-- Follows the code; nothing to believe: an area as a writer leaves it,
-- and how many bytes were written.
use Rattle.std.specs.Prelude.{ℕ, ◌≡◌, List, length}
use Rattle.base.specs.Lists.{written}

-- `out` stands at the front of an area that was `before` and is `after`, and has `r` bytes
pub record Wrote (out before after : List ℕ) (r : ℕ) : Type 0 where
  pub count : r ≡ length out
  pub area : after ≡ written out before
