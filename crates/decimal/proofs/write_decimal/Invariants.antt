-- The invariant of `decimal::write_decimal`: the last digits of `rest`, put in front of what is written,
-- give the whole.
use Rattle.decimal.proofs.Laws.{Writing}
use Rattle.decimal.proofs.write_decimal.Given as goal

abbrev pub invariant-loop-i : goal.invariant-loop-i
invariant-loop-i l = Writing l.fn.n l.i l.rest l.initial.out l.out
