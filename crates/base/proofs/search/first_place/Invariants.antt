-- The invariant of `base::search::first_place`: the places before `i` hold nothing,
-- so that the whole search is the one from `i` on.
use Rattle.std.proofs.Common.{◌≡◌, ◌-◌, ◌<◌, ◌≤◌, ℕ, Bool}
use Rattle.base.specs.First.{first}
use Rattle.base.proofs.search.first_place.Given as goal

abbrev pub invariant-loop-i : goal.invariant-loop-i
invariant-loop-i g l =
    (p : ℕ → Bool) → ((i : ℕ) (r : Bool) → l.a ≤ i → i < l.e → goal.F-post g l.test i r → r ≡ p i)
    → first p (l.e - l.a) l.a ≡ first p (l.e - l.i) l.i
