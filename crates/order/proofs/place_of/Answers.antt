-- The answers of `order::place_of`:
-- half of what is left, on the side where the place is.
use Rattle.std.proofs.Common.{◌≡◌, refl, ◌∙◌, ◌+◌, ◌-◌, ◌/◌, get_or, not, arith}
use Rattle.order.specs.Order.{less}
use Rattle.order.specs.ByDefinitions.{rank_of}
use Rattle.order.proofs.Library.{less_le}
use Rattle.order.proofs.Halves.{half_start, half_below, half_above}
use Rattle.order.proofs.place_of.Goals as goal

pub loop-low-init : goal.loop-low-init
loop-low-init c = (omega arith, half_start _ _ _ _, omega arith)

pub loop-low-preserved-then-le : goal.loop-low-preserved-then-le
loop-low-preserved-then-le c =
    let e : c.le.result ≡ not (less c.args.rank.now (rank_of c.args.definitions.now (get_or c.args.ordered.now (c.loop-low.low + (c.loop-low.high - c.loop-low.low) / 2) 0))) =
    c.le.ensures ∙ less_le c.rank_by.result.now c.args.rank.now ∙ rw (c.rank_by.ensures, c.from.ensures) refl in
    (half_above _ _ _ _ _ c.requires (omega arith) e c.if-le.true, c.loop-low.invariant.1, c.loop-low.invariant.2)

pub loop-low-preserved : goal.loop-low-preserved
loop-low-preserved c =
    let e : c.le.result ≡ not (less c.args.rank.now (rank_of c.args.definitions.now (get_or c.args.ordered.now (c.loop-low.low + (c.loop-low.high - c.loop-low.low) / 2) 0))) =
    c.le.ensures ∙ less_le c.rank_by.result.now c.args.rank.now ∙ rw (c.rank_by.ensures, c.from.ensures) refl in
    (c.loop-low.invariant.0, half_below _ _ _ _ _ e c.if-le.false, omega arith)
