-- The answers of `locator::label_at`: a digit, with which no matcher begins,
-- and the table of the code, which antt computes.
use Rattle.std.proofs.Common.{arith, refl, sym, ◌∙◌}
use Rattle.base.specs.Ascii.{ascii}
use Rattle.locator.specs.Matchers.{matchers}
use Rattle.locator.specs.Table.{matchers_in, all_spelt}
use Rattle.locator.proofs.Labels.{label_digit, label_other}
use Rattle.locator.proofs.label_at.Goals as goal

pub returns-then-is_ascii_digit : goal.returns-then-is_ascii_digit
returns-then-is_ascii_digit c = label_digit _ _ _ (sym c.is_ascii_digit.ensures.value ∙ c.if-is_ascii_digit.true)

pub match_in-requires : goal.match_in-requires
unfolding all_spelt matchers_in
match_in-requires c = (omega (arith, c.requires), refl)

pub returns : goal.returns
unfolding matchers_in matchers ascii
returns c = c.match_in.ensures ∙ label_other _ _ _ (sym c.is_ascii_digit.ensures.value ∙ c.if-is_ascii_digit.false)
