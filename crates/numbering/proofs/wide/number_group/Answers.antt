-- The answer of `numbering::wide::number_group`: where the labels did not fit before,
-- those of one group more do not either.
use Rattle.std.proofs.lemmas.Bool.{not-true}
use Rattle.numbering.proofs.WideLaws.{full_stays}
use Rattle.numbering.proofs.wide.number_group.Goals as goal

pub returns-then-not-s-clause-advances : goal.returns-then-not-s-clause-advances
returns-then-not-s-clause-advances c = full_stays _ _ _ _ _ _ _ _ _ (not-true _ c.if-not-s.true) c.requires.3
