-- The invariant of `Setting::number_groups`: the areas advanced by the first `g` groups, the definition lines lie below `lines`, and the
-- labels so far stand.
use Rattle.std.proofs.Common.{Some, ◌*◌}
use Rattle.base.specs.Modes.{mode_number}
use Rattle.definition.specs.Lines.{LinesBelow}
use Rattle.numbering.specs.Numbers.{number_from}
use Rattle.numbering.specs.Progress.{numbering_of, Advances, Labelled}
use Rattle.numbering.proofs.Setting.number_groups.Given as goal

abbrev pub invariant-loop-g : goal.invariant-loop-g
invariant-loop-g l =
    Advances (65535 * l.g) (λ t. number_from l.self.text.now (mode_number l.self.mode) l.self.pool.bytes.now l.self.n l.g t 0)
    (numbering_of 0 0) (Some l.s) l.initial.items l.initial.groups l.initial.labels l.items l.groups l.labels
    × LinesBelow l.self.text.now l.groups l.items l.self.n l.self.lines
    × Labelled l.self.text.now (mode_number l.self.mode) l.self.pool.bytes.now l.self.n l.self.m l.s l.items l.groups l.labels
