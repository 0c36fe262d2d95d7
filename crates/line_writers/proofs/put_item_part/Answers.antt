-- The key of the item, a space,
-- and its two numbers.
use Rattle.line_writers.proofs.Lines.{item_part_adds}
use Rattle.line_writers.proofs.put_item_part.Goals as goal

pub returns : goal.returns
returns c =
    item_part_adds _ _ _ c.key_in-key.ensures c.field-code.ensures.0 c.field-number.ensures.0 c.push.ensures c.push-2.ensures c.put_number.ensures
    c.put_number-2.ensures
