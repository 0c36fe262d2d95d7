-- The answers of the step of `item::GroupPieces`: the first of the pieces that are left,
-- and those after it.
use Rattle.std.proofs.Common.{arith, ap, length}
use Rattle.item.proofs.Walk.{walk_more, walk_last}
use Rattle.item.proofs.GroupPiecesIterator.next.Goals.{then-to-self, else-to-self}
use Rattle.item.proofs.GroupPiecesIterator.next.Goals as goal

pub returns-clause-steps : goal.returns-clause-steps
returns-clause-steps c = elim c.if-to-self.branch [
  | then-to-self w ↦ walk_more _ _ c.in_ok-from.was c.piece_end-to.ensures w.if-to-self.true w.self-is
  | else-to-self w ↦ walk_last _ _ c.in_ok-from.was c.piece_end-to.ensures w.if-to-self.false w.self-is
]

pub returns-clause-goes : goal.returns-clause-goes
returns-clause-goes c = let e = ap length (returns-clause-steps c) in grind (arith, e)
