-- The answers of `Sources::number_sources`:
-- one more source's number, and what lies after the front.
use Rattle.std.proofs.Common.{arith, length, take}
use Rattle.order.proofs.Definitions.{back_start, back_more, back_all}
use Rattle.order.proofs.Sources.number_sources.Goals as goal

pub loop-reference-init : goal.loop-reference-init
loop-reference-init c = back_start c.args.self.now.definitions.text.now c.args.self.now.definitions.pool.bytes.now c.args.self.now.definitions.groups.now c.args.self.now.definitions.items.now c.args.self.now.definitions.n c.args.self.now.m _

pub loop-reference-preserved : goal.loop-reference-preserved
loop-reference-preserved c =
    back_more _ _ _ _ _ _ _ c.loop-reference.reference-index (length (take c.args.self.now.sources c.args.references.now))
    c.loop-reference-test.true (omega arith) c.loop-reference.invariant c.from.ensures c.source_by.ensures

pub returns : goal.returns
returns c = back_all _ _ _ _ _ _ _ _ (omega arith) (omega arith) c.loop-reference.invariant
