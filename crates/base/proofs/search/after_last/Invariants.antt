-- The invariant of `base::search::after_last`: the places from `i` on hold nothing,
-- so that the whole search is the one up to `i`.
use Rattle.std.proofs.Common.{◌≡◌, ℕ, Bool, ◌-◌, ◌<◌, ◌≤◌}
use Rattle.base.specs.Last.{last_end}
use Rattle.base.proofs.search.after_last.Given as goal

abbrev pub invariant-loop-i : goal.invariant-loop-i
invariant-loop-i g l =
    (p : ℕ → Bool) → ((i : ℕ) (r : Bool) → l.a ≤ i → i < l.e → goal.F-post g l.test i r → r ≡ p i)
    → last_end p (l.e - l.a) l.a l.a ≡ last_end p (l.i - l.a) l.a l.a
