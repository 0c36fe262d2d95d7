-- Follows the code; nothing to believe: the number that the result of a check says,
-- as the definitions of refusals say it.
use Rattle.std.specs.Prelude.{ℕ, Result, Ok, Err}
use Rattle.base.specs.declared.refusal.Refusal.{Refusal}
use Rattle.base.specs.Refusals.{number_of}

-- the number that a result says: 0 where it is accepted
abbrev pub refusal_number : {A : Type 0} → Result A Refusal → ℕ
refusal_number (Ok x) = 0
refusal_number (Err e) = number_of e
