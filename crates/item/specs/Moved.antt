-- Theorems: items and pieces moved by a number of bytes,
-- for `ItemLocal` and `PiecesLocal`.
use Rattle.std.specs.Prelude.{ℕ, Option, Some, None}
use Rattle.locator.specs.Moved.{moved_span, moved_locator}
use Rattle.item.specs.declared.Item.{Item}

-- an item
abbrev pub moved_item : ℕ → Item → Item
moved_item d it = record {
  prefix = moved_span d it.prefix;
  key = moved_span d it.key;
  locator = moved_span d it.locator;
  parts = moved_locator d it.parts;
  suppressed = it.suppressed;
}

-- what a stretch is parsed to
abbrev pub moved_parsed : ℕ → Option Item → Option Item
moved_parsed d (Some it) = Some (moved_item d it)
moved_parsed d None = None
