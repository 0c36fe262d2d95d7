-- Follows the code; nothing to believe: what a slice that may be missing lends,
-- as a list of bytes that may be missing.
use Rattle.std.specs.Prelude.{ℕ, List, Option as Answer, Some, None}
use Rattle.std.specs.Borrow.{Bor}
use Rattle.std.proofs.Math.Option.{Option, none, some}

-- the bytes that a slice lends, if there is one
abbrev pub lent : Answer (Bor (List ℕ)) → Option (List ℕ)
lent None = none
lent (Some bytes) = some bytes.now
