-- Document 01, Corners of the Rust: the text
-- of an entry of the pool (`csl_to_def`).
use Rattle.std.proofs.Math.Option.{get_or}
use Rattle.std.specs.Prelude.{ℕ, List, [], ◌∷◌, ◌++◌}
use Rattle.base.specs.Pick.{pick}
use Rattle.base.specs.Fold.{fold}
use Rattle.pool.specs.Entries.{Name, Entry}
use Rattle.source.specs.Entry.{is_empty, year_of}
use Rattle.source_parts.specs.Joined.{beside}
use Rattle.source_parts.specs.Names.{name_of}
use Rattle.source_parts.specs.Parens.{in_parens}

-- "Empty names drop out of the list", "the names joined by `; `": the names so far, and one more
unfoldable pub add_name : List ℕ → Name → List ℕ
add_name so_far n = beside (59 ∷ 32 ∷ []) so_far (name_of n)

-- all names of an entry
unfoldable pub names_of : Entry → List ℕ
names_of e = fold add_name [] e.names

-- "The head is the names joined by `; `, a space, and the year, even an empty one, in parentheses; either part alone stands without
-- the space."
unfoldable pub head_of : Entry → List ℕ
head_of e = beside (32 ∷ []) (names_of e) (in_parens (year_of e))

-- a `.` after what is not empty
unfoldable pub ended : List ℕ → List ℕ
ended s = pick (is_empty s) [] (s ++ (46 ∷ []))

-- head, `. ` and title: the text without its stop
unfoldable pub body_of : Entry → List ℕ
body_of e = beside (46 ∷ 32 ∷ []) (head_of e) (get_or e.title [])

-- "Text is head, `. `, title, `.`; an empty head or title falls out together with the `. ` between them; with both empty the text
-- is empty."
unfoldable pub source_text_of : Entry → List ℕ
source_text_of e = ended (body_of e)
