-- Document 01, Corners of the Rust: the group at a bracket (`match_citation`),
-- by its close, and by the close that the unlimited scan finds.
use Rattle.std.specs.Prelude.{ℕ, ◌+◌, List, Bool, ◌||◌, ◌&&◌, not, eqb, Option, Some, None}
use Rattle.base.specs.Pick.{pick}
use Rattle.base.specs.Lists.{byte_at}
use Rattle.close.specs.Scan.{close_of}
use Rattle.item.specs.Group.{Group, good_items, group_of}

-- a group, or none
pub data GroupAnswer : Type 0 where
  Found : Group → GroupAnswer
  NoGroup : GroupAnswer

-- "A byte `(`, `[` or `{` after the close means no group"
unfoldable pub barred : List ℕ → ℕ → Bool
barred s c = eqb (byte_at s (c + 1)) 40 || eqb (byte_at s (c + 1)) 91 || eqb (byte_at s (c + 1)) 123

-- "one bad item means none"
unfoldable pub group_accepted : List ℕ → ℕ → ℕ → Bool
group_accepted s p c = not (barred s c) && good_items s p c

-- "With a close, `match_citation` judges the items and the byte after it."
unfoldable pub judge : List ℕ → ℕ → Option ℕ → GroupAnswer
judge s p (Some c) = pick (group_accepted s p c) (Found (group_of s p c)) NoGroup
judge s p None = NoGroup

-- what the unescaped `[` at `p` gives by the unlimited scan
unfoldable pub group_at : List ℕ → ℕ → GroupAnswer
group_at s p = judge s p (close_of s p)
