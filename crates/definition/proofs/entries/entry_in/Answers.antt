-- The answers of `definition::entries::entry_in`:
-- the first place of all, or none where that is the count of entries.
use Rattle.std.proofs.Common.{rules}
use Rattle.definition.specs.Entries.{entry_has, entry_in}
use Rattle.definition.proofs.EntryLaws.{found_first}
use Rattle.definition.proofs.entries.entry_in.Goals as goal

pub returns : goal.returns
unfolding entry_in
returns c =
    found_first (entry_has c.args.pool.bytes.now c.args.key.now) _
    (c.first_place-i.ensures (entry_has c.args.pool.bytes.now c.args.key.now) (λ i r l u h. search rules))
    c.then_some.ensures (search rules)
