-- The answers of `item::theorems`: the theorems of proofs/Parts, proofs/Groups, proofs/Local,
-- proofs/Plus and proofs/Laws.
use Rattle.item.proofs.Parts.{item_in_order}
use Rattle.item.proofs.Groups.{items_in_order}
use Rattle.item.proofs.Local.{item_local, pieces_local}
use Rattle.item.proofs.Plus.{plus_passed}
use Rattle.item.proofs.Laws.{mark_serves_not}
use Rattle.item.proofs.theorems.Goals as goal

pub returns : goal.returns
returns c = record {
  item_in_order = item_in_order;
  items_in_order = items_in_order;
  item_local = item_local;
  pieces_local = pieces_local;
  plus_passed = plus_passed;
  mark_serves_not = mark_serves_not;
}
