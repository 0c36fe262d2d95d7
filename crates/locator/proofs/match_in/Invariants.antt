-- The invariant of `locator::match_in`: the rows so far do not stand,
-- so that the whole table finds what the rest of it finds.
use Rattle.std.proofs.Common.{◌≡◌, drop, length}
use Rattle.locator.specs.Table.{matchers_in}
use Rattle.locator.specs.Locators.{match_in}
use Rattle.locator.proofs.match_in.Given as goal

abbrev pub invariant-loop-word : goal.invariant-loop-word
invariant-loop-word l = match_in (matchers_in l.table) l.text l.i (length l.text) ≡ match_in (matchers_in (drop l.word-index l.table)) l.text l.i (length l.text)
