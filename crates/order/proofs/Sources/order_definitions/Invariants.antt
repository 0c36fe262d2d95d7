-- The invariant of `Sources::order_definitions`:
-- the numbers of the definitions of the first `i` sources are in order at the front of the area.
use Rattle.std.proofs.Common.{◌≡◌, [], map}
use Rattle.base.specs.Lists.{written}
use Rattle.order.specs.Order.{inserted_from}
use Rattle.order.specs.ByDefinitions.{number_of, source_rank}
use Rattle.order.proofs.Sources.order_definitions.Given as goal

abbrev pub invariant-loop-i : goal.invariant-loop-i
invariant-loop-i l = l.references ≡ written (map (number_of l.self.definitions l.self.m) (inserted_from (source_rank l.self.definitions l.self.m) l.i [] 1)) l.initial.references
