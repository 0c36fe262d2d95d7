-- The answers of `item::judge_items`: the walk begins with all pieces,
-- and a piece is good or bad.
use Rattle.std.proofs.Common.{sym, ◌∙◌, ap}
use Rattle.item.specs.Walk.{pieces_left}
use Rattle.item.proofs.Walk.{judging_start, judging_bad, judging_more}
use Rattle.item.proofs.judge_items.Goals as goal

pub loop-piece-init : goal.loop-piece-init
loop-piece-init c =
    judging_start _ _ _ c.requires.0 c.requires.1 (ap pieces_left c.into_iter-piece-iterator.ensures.into_iter_gives ∙ c.between-piece-items.ensures)

pub returns-then-not-is_good_item : goal.returns-then-not-is_good_item
returns-then-not-is_good_item c =
    judging_bad c.loop-piece.invariant c.in-Some.ensures.steps (sym c.is_good_item.ensures ∙ c.if-not-is_good_item.true)

pub loop-piece-preserved : goal.loop-piece-preserved
loop-piece-preserved c =
    judging_more c.loop-piece.invariant c.in-Some.ensures.steps (sym c.is_good_item.ensures ∙ c.if-not-is_good_item.false)
