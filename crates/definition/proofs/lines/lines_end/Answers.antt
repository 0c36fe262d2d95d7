-- The answers of `definition::lines::lines_end`:
-- no group record from there on starts a definition line.
use Rattle.std.proofs.Common.{rules}
use Rattle.definition.specs.Lines.{defines_in}
use Rattle.definition.proofs.LineLaws.{below_end}
use Rattle.definition.proofs.lines.lines_end.Goals as goal

pub returns : goal.returns
returns c =
    below_end c.args.text.now c.args.groups.now c.args.items.now c.args.n
    (c.after_last.ensures (defines_in c.args.text.now c.args.groups.now c.args.items.now) (λ g r l u h. search rules))
