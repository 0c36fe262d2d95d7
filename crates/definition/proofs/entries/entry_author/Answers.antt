-- The answers of `definition::entries::entry_author`:
-- an entry without a name, and one with a first name.
use Rattle.std.proofs.Common.{sym, ◌∙◌}
use Rattle.definition.proofs.EntryLaws.{author_none, author_first}
use Rattle.definition.proofs.entries.entry_author.Goals as goal

pub returns-in_err-name : goal.returns-in_err-name
returns-in_err-name c = rw c.from_residual.ensures (author_none _ _ _ c.entry.ensures (sym c.names.ensures ∙ c.in_err-name.ensures.steps.0))

pub returns : goal.returns
returns c = author_first _ _ _ c.entry.ensures _ _ _ (sym c.names.ensures ∙ c.in_ok-name.ensures.steps) c.or.ensures
