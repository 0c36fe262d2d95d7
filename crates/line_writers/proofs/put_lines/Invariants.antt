-- The lines of the first items are added,
-- and those of the other items are left.
use Rattle.std.proofs.Common.{◌+◌, ◌-◌, ◌*◌, drop}
use Rattle.line_writers.specs.Lines.{item_lines, lines_of}
use Rattle.line_writers.proofs.Adds.{Along}
use Rattle.records.specs.Widths.{item_width, group_width}
use Rattle.line_writers.proofs.put_lines.Given as goal

abbrev pub invariant-loop-i : goal.invariant-loop-i
invariant-loop-i l =
    Along (lines_of l.answer.text.now (drop (group_width * l.g) l.answer.groups.now) l.answer.items.now)
    (item_lines (l.first + l.count - l.i) l.answer.text.now (drop (group_width * l.g) l.answer.groups.now) (drop (item_width * l.i) l.answer.items.now))
    l.fn.out l.out
