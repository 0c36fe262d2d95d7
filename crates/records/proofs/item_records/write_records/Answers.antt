-- The answers of `records::item_records::write_records`:
-- the walk begins with all pieces, a piece is written, and none is left.
use Rattle.std.proofs.Common.{ap, ◌∙◌, arith}
use Rattle.item.specs.Walk.{pieces_left}
use Rattle.records.proofs.RecordLaws.{writing_start, next_inside, next_room, writing_next, writing_end}
use Rattle.records.proofs.item_records.write_records.Goals as goal

pub loop-piece-init : goal.loop-piece-init
loop-piece-init c =
    writing_start _ _ _ _ c.requires (ap pieces_left c.into_iter-piece-iterator.ensures.into_iter_gives ∙ c.between-piece-items.ensures)

pub write_piece-requires : goal.write_piece-requires
write_piece-requires c =
    (omega (arith, next_inside c.loop-piece.invariant c.in-Some.ensures.steps), c.requires.short, next_room c.loop-piece.invariant c.in-Some.ensures.steps)

pub loop-piece-preserved : goal.loop-piece-preserved
loop-piece-preserved c = writing_next c.loop-piece.invariant c.in-Some.ensures.steps c.write_piece.ensures

pub returns : goal.returns
returns c = writing_end c.loop-piece.invariant c.in-None.ensures.steps.0
