-- The invariant of `records::item_records::write_records`:
-- the records of the pieces that are left, put into `items` from `n` on, give the area as it is to be.
use Rattle.item.specs.Walk.{pieces_left}
use Rattle.records.proofs.RecordLaws.{Writing}
use Rattle.records.proofs.item_records.write_records.Given as goal

abbrev pub invariant-loop-piece : goal.invariant-loop-piece
invariant-loop-piece l = Writing l.text l.p l.c l.fn.items l.items (pieces_left l.piece-iterator) l.n
