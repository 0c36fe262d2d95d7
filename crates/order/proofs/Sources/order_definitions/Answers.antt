-- The answers of `Sources::order_definitions`:
-- one more definition, into those in order.
use Rattle.std.proofs.Common.{arith}
use Rattle.order.proofs.Definitions.{definitions_start, definitions_sorted, definitions_more}
use Rattle.order.proofs.Sources.order_definitions.Goals as goal

pub loop-i-init : goal.loop-i-init
loop-i-init c = definitions_start _ _ _ _ _ _ _

pub insert_definition-requires : goal.insert_definition-requires
insert_definition-requires c =
    (omega arith, omega arith, definitions_sorted _ _ _ _ _ _ _ _ c.args.self.now.known _ (omega arith) c.loop-i.invariant)

pub loop-i-preserved : goal.loop-i-preserved
loop-i-preserved c =
    definitions_more _ _ _ _ _ _ _ _ c.args.self.now.known _ (omega arith) c.loop-i.invariant c.definition_of-d.ensures c.insert_definition.ensures
