-- The answers of `definition::entries::entry_id`:
-- the field 1, or no bytes.
use Rattle.std.proofs.Common.{refl}
use Rattle.definition.proofs.EntryLaws.{id_read}
use Rattle.definition.proofs.entries.entry_id.Goals as goal

pub returns : goal.returns
returns c = id_read _ _ _ c.entry.ensures _ _ refl c.field.ensures c.unwrap_or.ensures
