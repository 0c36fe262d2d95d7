-- Ranges of numbers: the test for one,
-- and what every number of one has.
use Prim.Native.Nat.{ℕ, zero, suc, ◌+◌, ◌≤◌, ◌<◌}
use native.Mathlib.Omega.{arith}
use mathlib.Core.Path.{◌≡◌, refl, sym, subst}
use mathlib.Core.Bool.{Bool, true, false}
use lib.Dec.{eqb, leb}
use borrow.Author.Tests.{eqb-true, eqb-false, le-leb, leb-true}
use Rattle.base.specs.Lists.{within, up_from}
use Rattle.base.specs.Sorted.{Each}
use Rattle.base.proofs.Bools.{and_left, and_right}

pub within_is : (lo hi b : ℕ) → within lo hi b ≡ true → (lo ≤ b) × (b ≤ hi)
within_is lo hi b h = (leb-true lo b (and_left (leb lo b) _ h), leb-true b hi (and_right (leb lo b) _ h))

pub within_so : (lo hi b : ℕ) → lo ≤ b → b ≤ hi → within lo hi b ≡ true
within_so lo hi b l h = rw (le-leb lo b l, le-leb b hi h)

-- what every number of a range has, one number of it has
pub each_up : (P : ℕ → Type 0) (lo n : ℕ) → Each P (up_from lo n) → (x : ℕ) → lo ≤ x → x < lo + n → P x
unfolding up_from
each_up P lo zero all x l h = absurd (omega arith)
each_up P lo (suc n) all x l h = go (eqb x lo) refl (λ m. each_up P (suc lo) n all.1 x m (omega arith))
  where
    go : (t : Bool) → eqb x lo ≡ t → (suc lo ≤ x → P x) → P x
    go true q on = subst P (sym (eqb-true x lo q)) all.0
    go false q on = let ne = eqb-false x lo q in on (omega arith)
