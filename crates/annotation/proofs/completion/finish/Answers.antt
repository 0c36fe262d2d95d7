-- The answers of `annotation::completion::finish`: what `number_and_order` requires follows from what the first half left, from the second sweep
-- and from what they say of the call as run.
use Rattle.annotation.proofs.FinishLaws.{goes_short, goes_counted, groups_short, items_short, numbers_none, numbers_known, finished_room}
use Rattle.annotation.proofs.completion.finish.Goals as goal

pub sweep-swept-requires : goal.sweep-swept-requires
sweep-swept-requires c = (goes_short c.requires c.in-Ok.is, goes_counted c.requires c.in-Ok.is)

pub number_and_order-counts-requires : goal.number_and_order-counts-requires
number_and_order-counts-requires c =
    let y = c.in-Ok.is in
    let t = c.sweep-swept.ensures in
    let f = c.if-swept.true in (
      groups_short c.requires y t,
      items_short c.requires y t,
      numbers_none c.requires y t c.note_after-note.ensures f,
      numbers_known c.requires y t c.note_after-note.ensures f,
    )

pub returns-then-swept : goal.returns-then-swept
returns-then-swept c =
    finished_room _ _ _ _ _ _ _ c.in-Ok.is c.note_after-note.ensures c.sweep-swept.ensures c.if-swept.true c.number_and_order-counts.ensures
