-- The answer of `numbering::number_groups`: what the method leaves at a mode's number, it leaves at each number that
-- is clamped to it.
use Rattle.numbering.proofs.ModeLaws.{all_same}
use Rattle.numbering.proofs.number_groups.Goals as goal

pub returns-clause-holds : goal.returns-clause-holds
returns-clause-holds c = rw (c.clamped-mode.ensures, all_same) at c.number_groups.ensures.holds
