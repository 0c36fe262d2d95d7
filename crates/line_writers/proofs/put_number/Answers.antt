-- The digits stand at the front of the local area,
-- and the byte is added after them.
use Rattle.line_writers.proofs.Adds.{number_adds, digits_length}
use Rattle.line_writers.proofs.put_number.Goals as goal

pub slice_bounds-push-end : goal.slice_bounds-push-end
slice_bounds-push-end c = digits_length _ c.write_decimal.ensures c.digit_count.ensures

pub returns : goal.returns
returns c = number_adds _ _ c.write_decimal.ensures c.digit_count.ensures c.push.ensures c.push-2.ensures
