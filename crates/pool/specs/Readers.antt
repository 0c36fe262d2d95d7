-- Follows the code; nothing to believe: the fields of some bytes,
-- and what the readers answer with, as the layout's values.
use Rattle.std.specs.Prelude.{ℕ, ℤ, pos, negsuc, suc, List, Bool, true, false, length}
use Rattle.std.specs.Prelude.{Option as Answer, Some, None}
use Rattle.std.proofs.Math.Option.{Option, none, some}
use Rattle.pool.specs.Numbers.{Signed, signed}
use Rattle.pool.specs.Fields.{Field, fields_of, fill}

-- the fields of some bytes
abbrev pub all_fields : List ℕ → List Field
all_fields s = fields_of s 0 (length s)

-- the bytes are fields, the last one ending where they do
abbrev pub are_fields : List ℕ → Bool
are_fields s = fill s 0 (length s)

-- a signed number by its sign and magnitude
abbrev pub sign_of : ℤ → Signed
sign_of (pos n) = signed false n
sign_of (negsuc n) = signed true (suc n)

-- a signed number, if there is one
abbrev pub read_number : Answer ℤ → Option Signed
read_number None = none
read_number (Some n) = some (sign_of n)
