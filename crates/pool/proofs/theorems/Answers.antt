-- `theorems`: those of proofs/Shapes
-- and proofs/Readings.
use Rattle.pool.proofs.Shapes.{good_is_spelled, spelled_is_good}
use Rattle.pool.proofs.Readings.{fields_read}
use Rattle.pool.proofs.theorems.Goals as goal

pub returns : goal.returns
returns c = record { good_is_spelled = good_is_spelled; spelled_is_good = spelled_is_good; fields_read = fields_read }
