-- The invariant of `locator::value_run`: from the place reached the value goes as far as from its start.
-- The measure is what is left of the text.
use Rattle.std.proofs.Common.{◌≡◌, ◌-◌, length}
use Rattle.locator.specs.Locators.{value_run}
use Rattle.locator.proofs.value_run.Given as goal

abbrev pub invariant-loop-next : goal.invariant-loop-next
invariant-loop-next l = value_run l.text l.v (length l.text) ≡ value_run l.text l.k (length l.text)

abbrev pub decreases-loop-next : goal.decreases-loop-next
decreases-loop-next l = length l.text - l.k
