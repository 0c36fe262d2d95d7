-- Document 01, Refusals: the number of each refusal, the refusal of each number,
-- and the answer of a call by its number.
use Rattle.std.specs.Prelude.{ℕ, Result, Ok, Err, eqb}
use Rattle.base.specs.Pick.{pick}
use Rattle.base.specs.declared.refusal.Refusal.{Refusal}
use Rattle.base.specs.declared.refusal.Refusal.TheVariants.{TextTooLong, TextNotUtf8, NoBracket, EscapedBracket, NoGroup, UnknownMode, PoolBroken, NoEntry, IndexTooShort, NoRoom}

-- "Refusals are numbered": 1 to 10
abbrev pub number_of : Refusal → ℕ
number_of TextTooLong = 1
number_of TextNotUtf8 = 2
number_of NoBracket = 3
number_of EscapedBracket = 4
number_of NoGroup = 5
number_of UnknownMode = 6
number_of PoolBroken = 7
number_of NoEntry = 8
number_of IndexTooShort = 9
number_of NoRoom = 10

-- the refusal of a number: 1 to 9, and 10 for any other
unfoldable pub refusal_of : ℕ → Refusal
refusal_of n =
    pick (eqb n 1) TextTooLong
    (pick (eqb n 2) TextNotUtf8
    (pick (eqb n 3) NoBracket
    (pick (eqb n 4) EscapedBracket
    (pick (eqb n 5) NoGroup
    (pick (eqb n 6) UnknownMode
    (pick (eqb n 7) PoolBroken
    (pick (eqb n 8) NoEntry
    (pick (eqb n 9) IndexTooShort
    NoRoom))))))))

-- a call with this number: what it gives where that is 0, else the refusal
abbrev pub answered : {A : Type 0} → ℕ → A → Result A Refusal
answered number x = pick (eqb number 0) (Ok x) (Err (refusal_of number))
