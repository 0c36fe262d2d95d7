-- A span by where it begins and ends: its length is the distance,
-- and it is missing where that is none.
use Prim.Native.Nat.{ℕ, ◌-◌, ◌≤◌, ◌<◌}
use native.Mathlib.Omega.{arith}
use mathlib.Core.Path.{◌≡◌, refl}
use mathlib.Core.Bool.{Bool, true, false}
use lib.Dec.{ltb}
use borrow.Author.Tests.{lt-ltb, le-ltb, ltb-true}
use Rattle.base.specs.Pick.{pick}
use Rattle.base.specs.Spans.{span, missing, span_of}

module _ (a e : ℕ) where
  pub span_some : a < e → span a (e - a) ≡ span_of a e
  unfolding span_of
  span_some h = rw (lt-ltb a e h) refl

  pub span_none : e ≤ a → missing ≡ span_of a e
  unfolding span_of
  span_none h = rw (le-ltb a e h) refl

  -- one that is there has a byte or more
  pub span_there : (span_of a e).len ≡ 0 → span_of a e ≡ missing
  unfolding span_of
  span_there = go (ltb a e) refl
    where
      go : (t : Bool) → ltb a e ≡ t → (pick t (span a (e - a)) missing).len ≡ 0 → pick t (span a (e - a)) missing ≡ missing
      go true q z = let h = ltb-true a e q in absurd (omega arith)
      go false q z = refl

pub ruleset span_laws = (span_some, span_none)
