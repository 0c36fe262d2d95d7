-- The counts of groups, items and sources,
-- each after its word.
use Rattle.line_writers.proofs.Lines.{counts_add}
use Rattle.line_writers.proofs.put_counts.Goals as goal

pub returns : goal.returns
returns c = counts_add c.args.c c.put_count.ensures c.put_count-2.ensures c.put_count-3.ensures
