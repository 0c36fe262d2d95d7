-- The answers of `numbering::numbers::label_in`:
-- the label by what was found.
use Rattle.numbering.proofs.LabelLaws.{named_area}
use Rattle.numbering.proofs.numbers.label_in.Goals as goal

pub returns-in-AuthorYear-clause-area : goal.returns-in-AuthorYear-clause-area
returns-in-AuthorYear-clause-area c =
    named_area c.args.definitions.now.text.now c.args.definitions.now.pool.bytes.now c.args.definitions.now.groups.now c.args.definitions.now.items.now
    c.args.mode c.args.definitions.now.n c.args.k c.args.number c.find.result c.given_by-given.result c.in-AuthorYear.is c.key_in-key.ensures
    c.find.ensures.result_value c.given_by-given.ensures c.suppressed_in-suppressed.ensures _ c.write_author_year.ensures.1
