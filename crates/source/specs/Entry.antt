-- Document 01, Corners of the Rust: the author and the year
-- of an entry of the pool (`csl_to_def`, `csl_year`).
use Rattle.std.specs.Prelude.{ℕ, List, [], ◌∷◌, Bool, true, false}
use Rattle.std.proofs.Math.Option.{Option, none, some, or_else}
use Rattle.pool.specs.Numbers.{Signed}
use Rattle.pool.specs.Entries.{Name, Entry}
use Rattle.source.specs.Decimal.{signed_decimal}

-- no bytes
abbrev pub is_empty : List ℕ → Bool
is_empty [] = true
is_empty (x ∷ xs) = false

-- "a first date part wins over the date literal"
unfoldable pub year_by : Option Signed → Option (List ℕ) → Option (List ℕ)
year_by (some year) date = some (signed_decimal year)
year_by none date = date

-- the year of an entry, where it gives one
unfoldable pub year_of : Entry → Option (List ℕ)
year_of e = year_by e.year e.date

-- "the label's author is the first name's literal or family, empty or not"
unfoldable pub author_by : List Name → Option (List ℕ)
author_by [] = none
author_by (n ∷ ns) = or_else n.literal n.family

-- the author of an entry, where it gives one
unfoldable pub author_of : Entry → Option (List ℕ)
author_of e = author_by e.names
