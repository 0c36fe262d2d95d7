-- The answers of `numbering::numbers::number_group`: what the method asks and leaves at a mode's number, it does at
-- each number that is clamped to it.
use Rattle.numbering.proofs.CiteLaws.{some_so}
use Rattle.numbering.proofs.ModeLaws.{labelled_down, labelled_up, group_up}
use Rattle.numbering.proofs.numbers.number_group.Goals as goal

pub number_group-requires : goal.number_group-requires
number_group-requires c =
    (c.requires.1, c.requires.2, c.requires.3, c.requires.4, rw c.clamped-mode.ensures (labelled_down _ _ _ _ _ _ _ _ _ c.requires.5))

pub returns-clause-advances : goal.returns-clause-advances
returns-clause-advances c = group_up _ _ _ _ _ _ (rw c.clamped-mode.ensures at c.number_group.ensures.advances)

pub returns-clause-labelled : goal.returns-clause-labelled
returns-clause-labelled c =
    some_so _ (λ q b. labelled_up _ _ _ _ _ q _ _ _ (rw c.clamped-mode.ensures at b)) c.number_group.ensures.labelled
