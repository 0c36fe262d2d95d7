-- The answers of `sweep::sweep`:
-- the sweep is at a bracket that wants a build, or at the text's end.
use Rattle.sweep.proofs.Turns.{swept_build, swept_end}
use Rattle.sweep.proofs.sweep.Goals as goal

pub returns-then-r : goal.returns-then-r
returns-then-r c = swept_build c.move_to-r.ensures c.loop-r.invariant.0 c.turn-r.ensures c.if-r.true

pub returns : goal.returns
returns c = swept_end c.move_to-r.ensures c.loop-r.invariant.0 c.loop-r.invariant.1 c.loop-r-test.false
