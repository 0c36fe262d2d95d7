-- Follows the code; nothing to believe: item records as they are written,
-- and the pairs that fit one.
use Rattle.std.specs.Prelude.{◌≤◌, ◌<◌, ◌≡◌, ℕ, List, [], true, length, Option, Some, None}
use Rattle.base.specs.declared.Span.{Span}
use Rattle.locator.specs.declared.Locator.{Locator}
use Rattle.locator.specs.Answers.{value_of, suffix_of}
use Rattle.item.specs.declared.Item.{Item}
use Rattle.item.specs.Group.{good_items, group_of}
use Rattle.records.specs.ItemRecords.{unnumbered_record, records_length}

-- the record of what a piece of a group was parsed to
unfoldable pub piece_record : Option Item → List ℕ
piece_record (Some it) = unnumbered_record it
piece_record None = []

-- a pair that fits a record
abbrev pub Narrow : Span → Type 0
Narrow p = (p.at ≤ 65535) × (p.len ≤ 65535)

-- the pairs of a locator fit a record
pub record NarrowLocator (l : Locator) : Type 0 where
  pub value : Narrow (value_of l)
  pub suffix : Narrow (suffix_of l)

-- the pairs of an item do
pub record NarrowItem (it : Item) : Type 0 where
  pub prefix : Narrow it.prefix
  pub key : Narrow it.key
  pub locator : Narrow it.locator
  pub parts : NarrowLocator it.parts

-- the records of the group at `p` with its close at `c` can be written: all its items are good, and there is room for them
pub record Writable (s : List ℕ) (p c : ℕ) (items : List ℕ) : Type 0 where
  pub short : length s ≤ 65535
  pub after : p < c
  pub inside : c < length s
  pub good : good_items s p c ≡ true
  pub room : records_length (group_of s p c) ≤ length items
