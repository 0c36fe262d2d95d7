-- The three numbers of the group,
-- each with a space after it.
use Rattle.line_writers.proofs.Lines.{group_part_adds}
use Rattle.line_writers.proofs.put_group_part.Goals as goal

pub returns : goal.returns
returns c =
    group_part_adds _ _ c.field-offset.ensures.0 c.field-length.ensures.0 c.field-standing.ensures.0 c.put_number.ensures c.put_number-2.ensures c.put_number-3.ensures
