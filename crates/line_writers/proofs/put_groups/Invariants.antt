-- The lines of the first groups are added,
-- and those of the other groups are left.
use Rattle.std.proofs.Common.{◌-◌, ◌*◌, drop}
use Rattle.line_writers.specs.Lines.{group_lines}
use Rattle.line_writers.proofs.Adds.{Along}
use Rattle.records.specs.Widths.{group_width}
use Rattle.line_writers.proofs.put_groups.Given as goal

abbrev pub invariant-loop-g : goal.invariant-loop-g
invariant-loop-g l =
    Along (group_lines l.n l.answer.text.now l.answer.groups.now l.answer.items.now)
    (group_lines (l.n - l.g) l.answer.text.now (drop (group_width * l.g) l.answer.groups.now) l.answer.items.now) l.fn.out l.out
