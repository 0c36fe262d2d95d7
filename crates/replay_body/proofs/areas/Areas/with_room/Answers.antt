-- The answers of `areas::Areas::with_room`:
-- each area is as long as it was asked for.
use Rattle.replay_body.proofs.areas.Areas.with_room.Goals as goal

pub returns-clause-cleared : goal.returns-clause-cleared
returns-clause-cleared c = (
  rw c.in_ok-vec-2.ensures.len (c.in_ok-vec-2.ensures.items_if_clones_equal (λ y h. h)),
  rw c.in_ok-vec-3.ensures.len (c.in_ok-vec-3.ensures.items_if_clones_equal (λ y h. h)),
  rw c.in_ok-vec-4.ensures.len (c.in_ok-vec-4.ensures.items_if_clones_equal (λ y h. h)),
  rw c.in_ok-vec-5.ensures.len (c.in_ok-vec-5.ensures.items_if_clones_equal (λ y h. h)),
)
