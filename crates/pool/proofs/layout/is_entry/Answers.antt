-- `layout::is_entry`: a field is good or not,
-- and the fields after it are left.
use Rattle.std.proofs.Common.{arith}
use Rattle.pool.specs.Views.{field_lent}
use Rattle.pool.proofs.LayoutLaws.{entry_next, entry_tag, entry_stop}
use Rattle.pool.proofs.layout.is_entry.Goals as goal

pub returns-then-not-is_good : goal.returns-then-not-is_good
returns-then-not-is_good c =
    entry_stop c.loop-rest.rest.now c.loop-rest.last (field_lent c.in-Some.field) c.in-Some.others.now c.loop-rest.invariant.same c.in-Some.ensures
    c.is_good.ensures (grind arith)

pub loop-rest-preserved : goal.loop-rest-preserved
loop-rest-preserved c = record {
  same = entry_next c.loop-rest.rest.now c.loop-rest.last (field_lent c.in-Some.field) c.in-Some.others.now c.loop-rest.invariant.same c.in-Some.ensures
      c.is_good.ensures (grind arith);
  some = entry_tag c.loop-rest.rest.now c.loop-rest.last (field_lent c.in-Some.field) c.is_good.ensures (grind arith);
}
