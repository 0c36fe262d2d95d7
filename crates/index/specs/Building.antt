-- Follows the code; nothing to believe: what a build asks of the lent areas,
-- and both of them after it.
use Rattle.std.specs.Prelude.{ℕ, ◌≤◌, Bool, List, length}
use Rattle.index.specs.declared.Bracket.{Bracket}
use Rattle.index.specs.Built.{built_index, built_records, index_after, records_after}

-- a build can be had: `n` index entries and `m` bracket records are enough for the text, and every place fits a u16
pub record Enough (s : List ℕ) (n m : ℕ) : Type 0 where
  pub short : length s ≤ 65535
  pub wide : length s ≤ n
  pub long : length s ≤ m

-- index and bracket records
abbrev pub Both : Type 0
Both = List ℕ × List Bracket

-- the two after a build
abbrev pub built : List ℕ → List ℕ → List Bracket → Both
built s index records = (built_index s index, built_records s records)

-- the two
abbrev pub built_when : Bool → List ℕ → List ℕ → List Bracket → Both
built_when want s index records = (index_after want s index, records_after want s records)
