-- The invariant of `order::place_of`:
-- the place lies between `low` and `high`.
use Rattle.std.proofs.Common.{◌-◌, ◌≤◌, length}
use Rattle.base.specs.First.{first}
use Rattle.order.specs.Ordered.{greater_at}
use Rattle.order.specs.ByDefinitions.{rank_of}
use Rattle.order.proofs.place_of.Given as goal

abbrev pub invariant-loop-low : goal.invariant-loop-low
invariant-loop-low l =
    (l.low ≤ first (greater_at (rank_of l.definitions) l.rank l.ordered) (length l.ordered) 0)
    × (first (greater_at (rank_of l.definitions) l.rank l.ordered) (length l.ordered) 0 ≤ l.high)
    × (l.high ≤ length l.ordered)

abbrev pub decreases-loop-low : goal.decreases-loop-low
decreases-loop-low l = l.high - l.low
