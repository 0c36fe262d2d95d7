-- The answers of `locator::match_in`: one row of the table,
-- and where no row is left.
use Rattle.std.proofs.Common.{rules, sym, ◌∙◌}
use Rattle.locator.proofs.Words.{lower_is}
use Rattle.locator.proofs.Rows.{match_here, match_next, match_none, spelt_at}
use Rattle.locator.proofs.match_in.Goals as goal

pub stands_at-requires : goal.stands_at-requires
stands_at-requires c = (c.requires.0, search (rules, lower_is), spelt_at _ _ _ c.requires.1 c.loop-word-test.true)

pub returns-then-stands_at : goal.returns-then-stands_at
returns-then-stands_at c = match_here _ _ _ _ _ _ c.loop-word-test.true c.stands_at.ensures c.if-stands_at.true ∙ sym c.loop-word.invariant

pub loop-word-preserved : goal.loop-word-preserved
loop-word-preserved c = c.loop-word.invariant ∙ match_next _ _ _ _ _ _ c.loop-word-test.true c.stands_at.ensures c.if-stands_at.false

pub returns : goal.returns
returns c = match_none _ _ _ _ _ c.loop-word-test.false ∙ sym c.loop-word.invariant
