-- Follows the code; nothing to believe: definition lines among the records,
-- and below which record all of them lie.
use Rattle.std.specs.Prelude.{ℕ, ◌≤◌, ◌<◌, ◌≡◌, List, Bool, false, ◌&&◌, eqb}
use Rattle.base.specs.LastPlace.{last}
use Rattle.base.specs.Lists.{same}
use Rattle.definition_line.specs.Lines.{starts_line, colon_after}
use Rattle.definition.specs.Defs.{Def, line_def}
use Rattle.records.specs.Records.{key_in, bare_in, close_of_record, next_in}
use Rattle.records.specs.Fields.{group_field}
use Rattle.records.specs.Widths.{group_place, group_count, group_first}

-- group record `g` starts a definition line: `defines`, by the records
unfoldable pub defines_in : List ℕ → List ℕ → List ℕ → ℕ → Bool
defines_in text groups items g =
    starts_line text (group_field groups g group_place) && eqb (group_field groups g group_count) 1 && bare_in items (group_field groups g group_first)
    && colon_after text (close_of_record groups g)

-- group record `g` starts a definition line of this key
unfoldable pub defines_key_in : List ℕ → List ℕ → List ℕ → List ℕ → ℕ → Bool
defines_key_in text groups items key g = defines_in text groups items g && same (key_in text items (group_field groups g group_first)) key

-- the group number of the last definition line of the key among the first `n`; `n` where there is none
unfoldable pub line_in : List ℕ → List ℕ → List ℕ → ℕ → List ℕ → ℕ
line_in text groups items n key = last (defines_key_in text groups items key) n n

-- the definition that the line of group record `g` gives
unfoldable pub line_def_in : List ℕ → List ℕ → ℕ → ℕ → Def
line_def_in text groups n g = line_def text g (close_of_record groups g) (next_in text groups n g)

-- Of the first `n` group records, all that start a definition line lie below `lines`: the search for the last of a key may begin there.
pub record LinesBelow (text groups items : List ℕ) (n lines : ℕ) : Type 0 where
  pub bounded : lines ≤ n
  pub none : (g : ℕ) → lines ≤ g → g < n → defines_in text groups items g ≡ false
