-- The answers of `records::theorems`:
-- the theorems of proofs/Places.
use Rattle.records.proofs.Places.{item_places, marks_below}
use Rattle.records.proofs.theorems.Goals as goal

pub returns-clause-item_places : goal.returns-clause-item_places
returns-clause-item_places c = item_places

pub returns-clause-marks_below : goal.returns-clause-marks_below
returns-clause-marks_below c = marks_below
