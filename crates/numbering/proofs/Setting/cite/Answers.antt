-- The answers of `Setting::cite`: no room for the label, or the record written. The definitions that the label is
-- written from are those of the setting.
use Rattle.std.proofs.Common.{arith}
use Rattle.std.proofs.Math.Bool.{not-not}
use Rattle.numbering.proofs.CiteLaws.{cite_over, cite_done, lines_cited, room_cited}
use Rattle.numbering.proofs.LabelledLaws.{labelled_done}
use Rattle.numbering.proofs.Setting.cite.Goals as goal

pub returns-then-left-len-clause-advances : goal.returns-then-left-len-clause-advances
returns-then-left-len-clause-advances c =
    let d = c.definitions-definitions.ensures in
    let w = rw (d.0, d.1, d.2, d.3, d.4) at c.write_label_of-len.ensures in
    let k = rw (c.is_empty.ensures, not-not) at c.count_in-c.ensures in
    cite_over _ _ _ _ _ _ _ _ _ c.requires.2 k w.value w.area (omega arith)

pub returns-clause-advances : goal.returns-clause-advances
returns-clause-advances c =
    let d = c.definitions-definitions.ensures in
    let w = rw (d.0, d.1, d.2, d.3, d.4) at c.write_label_of-len.ensures in
    let k = rw (c.is_empty.ensures, not-not) at c.count_in-c.ensures in
    cite_done _ _ _ _ _ _ _ _ _ c.requires.2 k w.value w.area (omega arith) c.set_last.ensures

pub returns-clause-lines : goal.returns-clause-lines
returns-clause-lines c = lines_cited _ _ _ c.requires.3 _ _ _ _ _ c.set_last.ensures

pub returns-clause-room : goal.returns-clause-room
returns-clause-room c = room_cited _ _ _ _ _ _ _ c.requires.4.room c.set_last.ensures

pub returns-clause-labelled : goal.returns-clause-labelled
returns-clause-labelled c =
    let d = c.definitions-definitions.ensures in
    let w = rw (d.0, d.1, d.2, d.3, d.4) at c.write_label_of-len.ensures in
    labelled_done _ _ _ _ _ c.requires.4 _ _ _ _ c.requires.2 (omega arith) w.value w.area c.set_last.ensures
