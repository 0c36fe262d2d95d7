-- THEOREM `Histories`: demand 3,
-- for the definitions that the contracts of the public calls cite.
use Rattle.annotation.proofs.Truth.{annotate_true, annotate_leaves, annotate_keeps}
use Rattle.lookup.proofs.LooksUp.{look_up_true, look_up_leaves, look_up_keeps}
use Rattle.histories.specs.Histories.{Histories}
use Rattle.histories.proofs.FromCalls.{histories}

pub demand_3 : Histories
demand_3 = histories look_up_true look_up_leaves look_up_keeps annotate_true annotate_leaves annotate_keeps
