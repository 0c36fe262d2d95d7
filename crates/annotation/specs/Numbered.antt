-- Follows the code; nothing to believe: whether an annotation that was refused with any number,
-- or the sweep of one, asks for a build.
use Rattle.std.specs.Prelude.{ℕ, Bool, false, Result, Ok, Err}
use Rattle.sweep.specs.declared.group_records.SweepState.{SweepState}

-- the prepared annotation asks for a build
unfoldable pub numbered_wants : Result SweepState ℕ → Bool
numbered_wants (Ok s) = s.wants
numbered_wants (Err number) = false
