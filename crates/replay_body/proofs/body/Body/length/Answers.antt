-- The answers of `body::Body::length`:
-- the slice from the place on has three bytes, or fewer.
use Rattle.replay_body.proofs.NumberLaws.{three_short, three_are}
use Rattle.replay_body.proofs.body.Body.length.Goals as goal

pub returns-in_default-clause-number : goal.returns-in_default-clause-number
returns-in_default-clause-number c = rw (← c.after.ensures) (three_short c.after.result.0.now c.in_default.len_below)

pub returns-in-len3-up-clause-number : goal.returns-in-len3-up-clause-number
returns-in-len3-up-clause-number c =
    rw (← c.after.ensures, c.from.ensures, c.from-in-len3-up.ensures, c.from_le_bytes.ensures) (three_are c.after.result.0.now c.in-len3-up.len_at_least)
