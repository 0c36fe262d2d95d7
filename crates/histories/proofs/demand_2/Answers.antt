-- The answer of `histories::demand_2`:
-- the theorem of proofs/Demand2.
use Rattle.histories.proofs.Demand2.{demand_2}
use Rattle.histories.proofs.demand_2.Goals as goal

pub returns : goal.returns
returns c = demand_2
