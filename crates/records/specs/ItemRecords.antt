-- Document 01, Layouts: item records,
-- of an item, and of all items of a group.
use Rattle.std.specs.Prelude.{ℕ, ◌*◌, length}
use mathlib.Core.List.{List, ◌∷◌, ◌++◌, flat_map}
use Rattle.base.specs.Pick.{pick}
use Rattle.base.specs.declared.Span.{Span}
use Rattle.base.specs.Spans.{pair_of, missing}
use Rattle.locator.specs.Answers.{code_of, value_of, suffix_of}
use Rattle.item.specs.declared.Item.{Item}
use Rattle.item.specs.Group.{Group}
use Rattle.records.specs.Widths.{item_width}

-- "marks (1 suppressed ..", and document 02, W10: "mark 2 is no longer set"
unfoldable pub marks_of : Item → ℕ
marks_of it = pick it.suppressed 1 0

-- the record of an item with its number, its use and its label
unfoldable pub item_record : Item → ℕ → ℕ → Span → List ℕ
item_record it number use_as label =
    pair_of it.prefix ++ pair_of it.key ++ pair_of it.locator ++ pair_of (value_of it.parts) ++ pair_of (suffix_of it.parts)
    ++ (code_of it.parts ∷ marks_of it ∷ number ∷ use_as ∷ pair_of label)

-- "The last four are 0 where not numbered or only looked up."
unfoldable pub unnumbered_record : Item → List ℕ
unnumbered_record it = item_record it 0 0 missing

-- the records of some items
abbrev pub records_in : List Item → List ℕ
records_in = flat_map unnumbered_record

-- the records of a group's items, one after the other
unfoldable pub records_of : Group → List ℕ
records_of g = records_in g.items

-- how many numbers they are
unfoldable pub records_length : Group → ℕ
records_length g = item_width * length g.items
