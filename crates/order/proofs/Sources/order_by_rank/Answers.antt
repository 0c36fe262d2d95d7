-- The answers of `Sources::order_by_rank`:
-- the sources lead back from their definitions.
use Rattle.order.proofs.Definitions.{sources_back}
use Rattle.order.proofs.Sources.order_by_rank.Goals as goal

pub returns : goal.returns
returns c = sources_back _ _ _ _ _ _ _ _ c.args.self.now.known c.order_definitions.ensures c.number_sources.ensures
