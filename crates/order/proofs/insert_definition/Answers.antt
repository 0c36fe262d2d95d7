-- The answers of `order::insert_definition`:
-- the place of the rank is among the numbers in order, and the turned part is the insertion.
use Rattle.std.proofs.Common.{◌≤◌, length, arith}
use Rattle.order.specs.ByDefinitions.{rank_of}
use Rattle.order.proofs.Halves.{front_rising, front_first, front_within}
use Rattle.order.proofs.OrderLaws.{insert_written, rotated_to}
use Rattle.order.proofs.insert_definition.Goals as goal

pub place_of-place-requires : goal.place_of-place-requires
place_of-place-requires c = front_rising (rank_of c.args.definitions.now) c.rank_by-rank.result.now _ c.requires.2

pub returns : goal.returns
returns c =
    let h : c.args.count ≤ length c.args.references.now = omega arith in
    insert_written (rank_of c.args.definitions.now) _ _ _ _ (rw c.from.ensures at c.rank_by-rank.ensures) (front_first _ _ _ _ h c.place_of-place.ensures.place) c.requires.1
    (rotated_to _ _ _ _ _ (front_within (rank_of c.args.definitions.now) c.rank_by-rank.result.now c.args.references.now c.args.count h c.place_of-place.ensures.within) c.requires.1 c.rotate_right.ensures.after)
