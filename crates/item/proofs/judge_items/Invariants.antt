-- The invariant of `item::judge_items`: the judgement on all pieces is that on those that are left,
-- after `count` good ones.
use Rattle.item.specs.Walk.{pieces_left}
use Rattle.item.proofs.Walk.{Judging}
use Rattle.item.proofs.judge_items.Given as goal

abbrev pub invariant-loop-piece : goal.invariant-loop-piece
invariant-loop-piece l = Judging l.text l.p l.c l.count (pieces_left l.piece-iterator)
