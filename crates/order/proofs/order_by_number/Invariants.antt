-- The invariant of `order::order_by_number`:
-- the first `i` places hold their numbers.
use Rattle.std.proofs.Common.{◌≡◌}
use Rattle.base.specs.Lists.{written, up_from}
use Rattle.order.proofs.order_by_number.Given as goal

abbrev pub invariant-loop-i : goal.invariant-loop-i
invariant-loop-i l = l.reference-items ≡ written (up_from 1 l.i) l.initial.reference-items
