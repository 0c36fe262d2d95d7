-- Follows the code; nothing to believe: a group by its place:
-- the bracket that opens it, its close, and how many items it has.
use Rattle.std.specs.Prelude.{ℕ, ◌<◌, ◌≡◌, List, true, length}
use Rattle.item.specs.Pieces.{items_of}
use Rattle.resolve.specs.Groups.{group_accepted}

-- a group stands from the bracket at `at` to `close`, with `count` items
pub record GroupFrom (text : List ℕ) (at close count : ℕ) : Type 0 where
  pub after : at < close
  pub inside : close < length text
  pub good : group_accepted text at close ≡ true
  pub counts : count ≡ length (items_of text at close)
