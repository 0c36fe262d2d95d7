-- The answers of `Setting::number_group`: a group in a definition line, one with a key that is not defined, and one numbered.
-- The definitions that the keys are searched in are those of the setting.
use Rattle.std.proofs.Common.{rules}
use Rattle.numbering.proofs.CiteLaws.{lines_stood}
use Rattle.numbering.proofs.LabelledLaws.{labelled_stood}
use Rattle.numbering.proofs.NumberLaws.{group_line, group_undefined, group_numbered}
use Rattle.numbering.proofs.Setting.number_group.Goals as goal

pub returns-then-standing-from-clause-advances : goal.returns-then-standing-from-clause-advances
returns-then-standing-from-clause-advances c = group_line _ _ _ _ _ _ _ _ _ c.requires.2 c.field-standing.ensures.0 (search rules)

pub returns-then-not-all_defined-clause-advances : goal.returns-then-not-all_defined-clause-advances
returns-then-not-all_defined-clause-advances c =
    let d = c.definitions-definitions.ensures in
    group_undefined _ _ _ _ _ _ _ _ _ c.requires.2 c.field-first.ensures.0 c.field-count.ensures.0
    (rw (d.0, d.1, d.2, d.3, d.4) at c.all_defined.ensures) c.if-not-all_defined.true

pub cite_from-requires : goal.cite_from-requires
cite_from-requires c = (
  c.field-first.ensures.1,
  c.field-count.ensures.1,
  c.requires.1,
  c.requires.2,
  lines_stood _ _ _ c.requires.3 _ _ c.put.ensures,
  labelled_stood _ _ _ _ _ c.requires.4 _ _ c.put.ensures,
)

pub returns-clause-advances : goal.returns-clause-advances
returns-clause-advances c =
    let d = c.definitions-definitions.ensures in
    group_numbered _ _ _ _ _ _ _ _ _ c.requires.2 c.field-first.ensures.0 c.field-count.ensures.0
    (rw (d.0, d.1, d.2, d.3, d.4) at c.all_defined.ensures) c.field-standing.ensures.0 (λ e. absurd (search rules)) (rw c.into.ensures at c.put.ensures) _ c.if-not-all_defined.false
    c.field-count.ensures.1 c.cite_from.ensures.advances
