-- The answers of `lookup::theorems`:
-- the theorems of proofs/LooksUp, and two of the crate `resolve`.
use Rattle.resolve.proofs.AtBracket.{bracket_true}
use Rattle.resolve.proofs.Parts.{group_in_order}
use Rattle.lookup.proofs.LooksUp.{look_up_true, look_up_leaves, look_up_keeps}
use Rattle.lookup.proofs.theorems.Goals as goal

pub returns : goal.returns
returns c = record {
  bracket_true = bracket_true;
  group_in_order = group_in_order;
  look_up_true = look_up_true;
  look_up_leaves = look_up_leaves;
  look_up_keeps = look_up_keeps;
}
