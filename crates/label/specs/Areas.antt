-- Follows the code; nothing to believe: an area that was lent for one answer,
-- after bytes were written at its front or at a place of it, where they fit.
use Rattle.std.specs.Prelude.{ℕ, ◌≡◌, List, ◌++◌, length, take, drop, leb}
use Rattle.base.specs.Pick.{pick}
use Rattle.base.specs.Lists.{written}

-- `out` at the front of the area, or the area as it was where that is too short
abbrev pub fitted : List ℕ → List ℕ → List ℕ
fitted out area = pick (leb (length out) (length area)) (written out area) area

-- `out` from place `at` of the area on, or the area as it was where the rest is too short
unfoldable pub fitted_at : List ℕ → ℕ → List ℕ → List ℕ
fitted_at out at area = take at area ++ fitted out (drop at area)

-- what a writer answers and leaves: the length of `out`, and the area with it where it fits
abbrev pub Fitted : List ℕ → List ℕ → ℕ → List ℕ → Type 0
Fitted out area r after = (r ≡ length out) × (after ≡ fitted out area)
