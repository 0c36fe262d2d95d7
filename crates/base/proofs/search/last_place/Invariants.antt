-- The invariant of `base::search::last_place`: the places from `i` on hold nothing,
-- so that the whole search is the one below `i`.
use Rattle.std.proofs.Common.{◌≡◌, ℕ, Bool, ◌<◌}
use Rattle.base.specs.LastPlace.{last}
use Rattle.base.proofs.search.last_place.Given as goal

abbrev pub invariant-loop-i : goal.invariant-loop-i
invariant-loop-i g l =
    (p : ℕ → Bool) → ((i : ℕ) (r : Bool) → i < l.n → goal.F-post g l.test i r → r ≡ p i)
    → (d : ℕ) → last p l.n d ≡ last p l.i d
