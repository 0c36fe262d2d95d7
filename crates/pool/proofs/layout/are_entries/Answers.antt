-- `layout::are_entries`: an entry is good,
-- and the next one begins where it ends.
use Rattle.std.proofs.Common.{rules}
use Rattle.pool.proofs.LayoutLaws.{entries_next}
use Rattle.pool.proofs.layout.are_entries.Goals as goal

pub loop-i-preserved : goal.loop-i-preserved
loop-i-preserved c =
    entries_next c.args.pool.now c.loop-i.i c.loop-i.at c.args.count c.loop-i.invariant (search rules) c.is_pair.ensures (search rules) c.entry_bounds.ensures.1
