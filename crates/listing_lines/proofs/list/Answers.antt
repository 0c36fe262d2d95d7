-- `listing_lines::list` meets its contract:
-- the areas are as long as the text asks for, and zero.
use Rattle.std.proofs.Common.{refl, arith}
use Rattle.listing_lines.proofs.Whole.{said, long_room, long_is, all_ready}
use Rattle.listing_lines.proofs.list.Goals as goal

pub put_refusal-requires : goal.put_refusal-requires
put_refusal-requires c = long_room c.args.out.now (omega arith)

pub returns-then-n-gt-LONGEST : goal.returns-then-n-gt-LONGEST
returns-then-n-gt-LONGEST c = said _ _ (omega arith) (rw (long_is c.args.text.now (omega arith)) c.put_refusal.ensures)

pub returns : goal.returns
returns c = said _ _ (omega arith) c.list_in.ensures

pub list_in-requires : goal.list_in-requires
list_in-requires c = all_ready _ _ _ _ _ _ _ (omega arith) refl refl refl refl refl (omega arith)
