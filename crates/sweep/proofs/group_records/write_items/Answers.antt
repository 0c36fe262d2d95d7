-- The answer of `sweep::group_records::write_items`:
-- the records of the group have room.
use Rattle.sweep.proofs.Recording.{items_writable}
use Rattle.sweep.proofs.group_records.write_items.Goals as goal

pub write_records-requires : goal.write_records-requires
write_records-requires c = items_writable _ _ _ _ _ c.requires
