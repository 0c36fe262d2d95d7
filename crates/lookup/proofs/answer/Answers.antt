-- The answer of `lookup::answer`:
-- the records of the group that was found can be written.
use Rattle.lookup.proofs.Laws.{matched_writable}
use Rattle.lookup.proofs.answer.Goals as goal

pub write_records-requires : goal.write_records-requires
write_records-requires c =
    matched_writable _ _ _ _ c.match_citation.ensures c.ok_or.ensures.value c.in_ok-group.was c.if-items-group.false c.requires.0 c.requires.2
