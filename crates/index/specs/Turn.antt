-- Follows the code; nothing to believe: what a turn of the scan asks
-- of the lent areas.
use Rattle.std.specs.Prelude.{ℕ, ◌-◌, ◌<◌, List, length}
use Rattle.index.specs.declared.Bracket.{Bracket}
use Rattle.index.specs.declared.Scan.{Scan}
use Rattle.index.specs.Passing.{Fine, turn_at}

-- a turn of the scan can be taken: the record that it reads, the one that it stores and the entry that it writes are there
pub record Ready (s : List ℕ) (c : Scan) (index : List ℕ) (records : List Bracket) : Type 0 where
  pub fine : Fine s c
  pub read : c.depth - 1 < length records
  pub slot : (turn_at s c records).slot < length records
  pub place : (turn_at s c records).place < length index
