-- Document 01, Corners of the Rust: a group
-- by the places of its bracket and of its close.
use Rattle.std.specs.Prelude.{ℕ, List, Bool}
use Rattle.item.specs.declared.Item.{Item}
use Rattle.item.specs.Pieces.{all_good, pieces_of, items_of}

-- a group: the places of its bracket and of its close, and the items
pub record Group : Type 0 where
  pub at : ℕ
  pub close : ℕ
  pub items : List Item

-- "only good items" between the bracket at `p` and the close at `c`
unfoldable pub good_items : List ℕ → ℕ → ℕ → Bool
good_items s p c = all_good s (pieces_of s p c)

-- the group of the bracket at `p` with its close at `c`
unfoldable pub group_of : List ℕ → ℕ → ℕ → Group
group_of s p c = record { at = p; close = c; items = items_of s p c }
