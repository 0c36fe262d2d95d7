-- Follows the code; nothing to believe: a year of an entry, a number or bytes.
-- What its bytes are, and those of a year that may be missing.
use Rattle.std.specs.Prelude.{ℕ, List}
use Rattle.std.specs.Prelude.{Option as Answer, Some, None}
use Rattle.std.proofs.Math.Option.{Option, none, some}
use Rattle.pool.specs.Numbers.{signed}
use Rattle.source.specs.declared.Year.{Year}
use Rattle.source.specs.declared.Year.TheVariants.{Number, Text}
use Rattle.source.specs.Decimal.{signed_decimal}

-- the bytes that a year is
abbrev pub year_bytes : Year → List ℕ
year_bytes (Number negative magnitude) = signed_decimal (signed negative magnitude)
year_bytes (Text bytes) = bytes.now

-- how the year is written, where there is one
abbrev pub written_year : Answer Year → Option (List ℕ)
written_year None = none
written_year (Some year) = some (year_bytes year)
