-- `layout::are_entries`: all entries are good
-- where those from number `i` on are.
use Rattle.std.proofs.Common.{◌≡◌, ◌+◌, ◌-◌, ◌*◌}
use Rattle.pool.specs.Layout.{entries_good}
use Rattle.pool.proofs.layout.are_entries.Given as goal

abbrev pub invariant-loop-i : goal.invariant-loop-i
invariant-loop-i l = entries_good l.count l.pool 0 (2 + 4 * l.count) ≡ entries_good (l.count - l.i) l.pool l.i l.at
