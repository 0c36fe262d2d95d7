-- The answers of `body::Body::word`:
-- the slice from the place on has two bytes, or fewer.
use Rattle.replay_body.proofs.NumberLaws.{two_short, two_are}
use Rattle.replay_body.proofs.body.Body.word.Goals as goal

pub returns-in_default : goal.returns-in_default
returns-in_default c = rw (← c.after.ensures) (two_short c.after.result.0.now c.in_default.len_below)

pub returns-in-len2-up : goal.returns-in-len2-up
returns-in-len2-up c = rw (← c.after.ensures, c.from_le_bytes.ensures) (two_are c.after.result.0.now c.in-len2-up.len_at_least)
