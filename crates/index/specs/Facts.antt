-- Theorems: the index in one pass,
-- proved in proofs/Linear.
use Rattle.std.specs.Prelude.{ℕ, ◌≤◌, List, ◌≡◌, length}
use Rattle.index.specs.declared.Bracket.{Bracket}
use Rattle.index.specs.Built.{blank}
use Rattle.index.specs.Building.{built}
use Rattle.index.specs.Scan.{start}
use Rattle.index.specs.Passing.{filled, runs}

-- THEOREM: a build in at most as many turns as the text has bytes leaves the index by its definition, and zero records
abbrev pub LinearIndex : Type 0
LinearIndex =
    (s index : List ℕ) (records : List Bracket) → length s ≤ length index → length s ≤ length records
    → (let after = runs (length s) s start (filled 0 (length s) index) records in (after.0, filled blank (length s) after.1))
    ≡ built s index records
