-- The answers of `annotation::after_sweep::number_and_order`: what the method asks and leaves at a mode's number, it
-- does at each number that is clamped to it.
use Rattle.numbering.proofs.ModeLaws.{all_same}
use Rattle.annotation.proofs.OrderLaws.{ordered_same}
use Rattle.annotation.proofs.after_sweep.number_and_order.Goals as goal

pub number_and_order-requires : goal.number_and_order-requires
number_and_order-requires c =
    (c.requires.0, c.requires.1, c.requires.2, rw (c.clamped-mode.ensures, all_same c.args.text.now c.args.mode _ _ _ _) c.requires.3)

pub returns : goal.returns
returns c = ordered_same _ _ _ _ _ _ _ _ _ _ _ _ _ _ (rw c.clamped-mode.ensures at c.number_and_order.ensures)
