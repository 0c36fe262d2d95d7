-- A refusal is its line;
-- any other answer is the counts and then the groups.
use Rattle.std.proofs.Common.{refl, arith, rules}
use Rattle.line_writers.proofs.Lines.{counts_listed, refused_room, refused_listed}
use Rattle.line_writers.proofs.put_listing.Goals as goal

pub returns-in-Ok : goal.returns-in-Ok
returns-in-Ok c =
    let h = rw c.in-Ok.is at c.requires.1 in
    rw c.in-Ok.is (counts_listed _ _ _ _ c.in-Ok.counts refl refl h (omega arith) (search rules) c.put_counts.ensures c.put_groups.ensures)

pub put_refusal-requires : goal.put_refusal-requires
put_refusal-requires c = refused_room _ _ _ _ c.in-Err.refusal (rw c.in-Err.is at c.requires.1)

pub returns-in-Err : goal.returns-in-Err
returns-in-Err c = rw c.in-Err.is (refused_listed _ _ _ _ _ c.put_refusal.ensures)
