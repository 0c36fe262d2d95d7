-- The answers of `Definitions::line_of`:
-- from `lines` on no group record starts a definition line.
use Rattle.std.proofs.Common.{rules}
use Rattle.definition.specs.Lines.{defines_key_in}
use Rattle.definition.proofs.LineLaws.{line_found}
use Rattle.definition.proofs.Definitions.line_of.Goals as goal

pub returns : goal.returns
returns c =
    line_found _ _ _ _ _ _ c.args.self.now.below _
    (c.last_place.ensures (defines_key_in c.args.self.now.text.now c.args.self.now.groups.now c.args.self.now.items.now c.args.key.now) (λ g r l h. search rules))
