-- Follows the code; nothing to believe: bounds below which the code's sums over records
-- fit its numbers.
use Rattle.std.specs.Prelude.{ℕ}

-- more records than any area has: the number of one, times a record's width, fits 64 bits
abbrev pub record_bound : ℕ
record_bound = 4294967296

-- more sources than any text has
abbrev pub source_bound : ℕ
source_bound = 1099511627776

-- half of it: more sources than there are before any group
abbrev pub half_source_bound : ℕ
half_source_bound = 549755813888
