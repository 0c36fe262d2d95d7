-- Document 01, Corners of the Rust: labels (`annotate_citations_inline`),
-- by a number, or by author and year.
use Rattle.std.specs.Prelude.{ℕ, List, [], ◌∷◌, ◌++◌, Bool, eqb}
use Rattle.std.proofs.Math.Option.{Option, get_or}
use Rattle.base.specs.Pick.{pick}
use Rattle.text.specs.Trim.{trim}
use Rattle.decimal.specs.Decimal.{decimal}
use Rattle.source.specs.Entry.{is_empty}
use Rattle.definition.specs.Defs.{Def, def_author, def_year}

-- `s`, or the number in decimal where `s` is empty
unfoldable pub or_number : List ℕ → ℕ → List ℕ
or_number s number = pick (is_empty s) (decimal number) s

-- "author, space, year, trimmed, or the number if nothing is left"
unfoldable pub author_year : ℕ → List ℕ → List ℕ → List ℕ
author_year number author year = or_number (trim (author ++ (32 ∷ year))) number

-- "A suppressed item shows the year even if that is empty, else its number."
unfoldable pub year_only : ℕ → Option (List ℕ) → List ℕ
year_only number year = get_or year (decimal number)

-- "Mode 0 labels by number; mode 1 by author, space, year": from the author's bytes, none where it is not given, and the year
unfoldable pub label_by : ℕ → Bool → ℕ → List ℕ → Option (List ℕ) → List ℕ
label_by mode suppressed number author year =
    pick (eqb mode 0) (decimal number)
    (pick suppressed (year_only number year) (author_year number author (get_or year [])))

-- the label of an item with this definition
unfoldable pub label_text : ℕ → Bool → ℕ → Option Def → List ℕ
label_text mode suppressed number def = label_by mode suppressed number (get_or (def_author def) []) (def_year def)
