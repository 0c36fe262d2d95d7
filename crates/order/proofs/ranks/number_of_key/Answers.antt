-- The answers of `order::ranks::number_of_key`:
-- the search ends among the records.
use Rattle.std.proofs.Common.{rules, arith}
use Rattle.uses.specs.Uses.{used_at}
use Rattle.order.proofs.RankLaws.{use_below}
use Rattle.order.proofs.ranks.number_of_key.Goals as goal

pub field-requires : goal.field-requires
field-requires c = (
  omega arith,
  use_below c.args.text.now c.args.items.now c.args.key.now c.args.m
      (c.first_place-j.ensures (used_at c.args.text.now c.args.items.now c.args.key.now) (λ j r l u h. search rules)) c.requires,
  omega arith,
)
