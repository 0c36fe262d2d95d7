-- The invariant of `Setting::cite_from`: the areas advanced by the items before `k`,
-- the definition lines lie below `lines`, and the labels so far stand.
use Rattle.std.proofs.Common.{Some, ◌-◌}
use Rattle.base.specs.Modes.{mode_number}
use Rattle.definition.specs.Lines.{LinesBelow}
use Rattle.numbering.specs.Numbers.{cite_from}
use Rattle.numbering.specs.Progress.{Advances, Labelled}
use Rattle.numbering.proofs.Setting.cite_from.Given as goal

abbrev pub invariant-loop-k : goal.invariant-loop-k
invariant-loop-k l =
    Advances (l.k - l.first) (λ t. cite_from l.self.text.now (mode_number l.self.mode) l.self.pool.bytes.now l.self.n (l.k - l.first) t l.first)
    l.initial.so_far (Some l.so_far) l.initial.items l.groups l.initial.labels l.items l.groups l.labels
    × LinesBelow l.self.text.now l.groups l.items l.self.n l.self.lines
    × Labelled l.self.text.now (mode_number l.self.mode) l.self.pool.bytes.now l.self.n l.self.m l.so_far l.items l.groups l.labels
