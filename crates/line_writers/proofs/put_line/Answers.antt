-- The group's part,
-- then the item's.
use Rattle.line_writers.proofs.Lines.{line_adds}
use Rattle.line_writers.proofs.put_line.Goals as goal

pub returns : goal.returns
returns c = line_adds _ _ _ c.put_group_part.ensures c.put_item_part.ensures
