-- The answers of `key::theorems`:
-- the theorems of proofs/Laws.
use Rattle.key.proofs.Laws.{key_ends, old_keys}
use Rattle.key.proofs.theorems.Goals as goal

pub returns : goal.returns
returns c = record { key_ends = key_ends; old_keys = old_keys }
