-- Follows the code; nothing to believe: the number of each mode,
-- which is the number that a caller gives.
use Rattle.std.specs.Prelude.{ℕ}
use Rattle.base.specs.declared.mode.Mode.{Mode}
use Rattle.base.specs.declared.mode.Mode.TheVariants.{Number, AuthorYear}

-- mode 0: by number; mode 1: by author and year
abbrev pub mode_number : Mode → ℕ
mode_number Number = 0
mode_number AuthorYear = 1
