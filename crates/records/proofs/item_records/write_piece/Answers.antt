-- The answers of `records::item_records::write_piece`:
-- the places of an item that was parsed fit a record.
use Rattle.std.proofs.Common.{arith}
use Rattle.records.proofs.RecordLaws.{item_narrow}
use Rattle.records.proofs.item_records.write_piece.Goals as goal

pub record_of-requires : goal.record_of-requires
record_of-requires c = item_narrow _ _ _ c.in-Some.ensures (omega arith) (omega arith)
