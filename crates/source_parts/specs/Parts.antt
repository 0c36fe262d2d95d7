-- Follows the code; nothing to believe: the bytes of a part of a text,
-- and a text in an area that may have no room for it.
use Rattle.std.specs.Prelude.{ℕ, ◌≤◌, ◌≡◌, List, [], ◌∷◌, ◌++◌, length, min}
use Rattle.base.specs.Lists.{written}
use Rattle.source.specs.Years.{year_bytes}
use Rattle.source_parts.specs.declared.Part.{Part}
use Rattle.source_parts.specs.declared.Part.TheVariants.{Plain, Given, InParens}
use Rattle.source_parts.specs.declared.Text.{Text}

-- the bytes of a part: those of a name are the family, `, ` and the given name
abbrev pub part_text : Part → List ℕ
part_text (Plain bytes) = bytes.now
part_text (Given family given) = family.now ++ (44 ∷ 32 ∷ given.now)
part_text (InParens year) = 40 ∷ (year_bytes year ++ (41 ∷ []))

-- a text stands at the front of an area that was `before`, if it has room there; its bytes are counted up to the largest number
pub record Holds (text before : List ℕ) (t : Text) : Type 0 where
  pub count : t.len ≡ min (length text) 18446744073709551615
  pub size : length t.area.now ≡ length before
  pub area : length text ≤ length before → t.area.now ≡ written text before

-- the text that an area held is `edit` of it now, in the same area
pub record Edits (edit : List ℕ → List ℕ) (before after : Text) : Type 0 where
  pub held : (text area : List ℕ) → Holds text area before → Holds (edit text) area after
  pub same_area : after.area.ghost_name ≡ before.area.ghost_name

-- `bytes` were added to it
abbrev pub Adds : List ℕ → Text → Text → Type 0
Adds bytes before after = Edits (λ text. text ++ bytes) before after
