-- What a place of the sweep gives before any build,
-- and the group that is found there.
use Prim.Native.Nat.{ℕ}
use mathlib.Core.Path.{◌≡◌, refl, sym, ◌∙◌, ap}
use mathlib.Core.List.{List}
use mathlib.Core.Bool.{Bool, true, false, ◌&&◌}
use Rattle.std.specs.Prelude.{Option, None}
use Rattle.base.specs.Pick.{pick}
use Rattle.index.specs.Entries.{opens_at}
use Rattle.resolve.specs.declared.Look.TheVariants.{Known}
use Rattle.resolve.specs.Groups.{NoGroup, judge}
use Rattle.resolve.specs.Resolve.{look_of, is_build, close_after, close_as_run, group_as_run, wants_build}
use Rattle.resolve.specs.Looks.{Inside, LookInside}
use Rattle.resolve.proofs.Judges.{judge_nothing}
use Rattle.resolve.proofs.Laws.{look_inside}
use Rattle.resolve.proofs.Runs.{look_wants, look_close}
use Rattle.sweep.specs.Sweep.{found_with, wants_at}
use Rattle.sweep.specs.Steps.{step_at}

module _ (s : List ℕ) (note : ℕ) (index : List ℕ) (p : ℕ) where
  -- no unescaped bracket
  pub none_wants : opens_at s p ≡ false → wants_at s note p ≡ false
  unfolding wants_at
  none_wants e = rw e

  pub none_found : opens_at s p ≡ false → found_with s note index p ≡ NoGroup
  unfolding found_with
  none_found e = rw e

  -- a build is asked for exactly where the sweep as run wants one
  pub step_wants : is_build (step_at s note index p) ≡ wants_at s note p
  unfolding step_at wants_at
  step_wants = go (opens_at s p)
    where
      go : (o : Bool) → is_build (pick o (look_of s p note index) (Known None)) ≡ o && wants_build s p note
      go true = look_wants s p note index
      go false = refl

  step_inside : LookInside s p (step_at s note index p)
  unfolding step_at
  step_inside = go (opens_at s p)
    where
      go : (o : Bool) → LookInside s p (pick o (look_of s p note index) (Known None))
      go true = look_inside s p note index
      go false = tt

  -- a known close: it lies after the bracket, in the text, at a `]`; no build is wanted; and it gives the group that is found
  module _ {d : Option ℕ} (k : Known d ≡ step_at s note index p) where
    pub found_inside : Inside s p d
    found_inside = rw (sym k) at step_inside

    pub no_build : wants_at s note p ≡ false
    no_build = sym step_wants ∙ ap is_build (sym k)

    pub found_is : found_with s note index p ≡ judge s p d
    unfolding step_at found_with group_as_run close_after
    found_is = go (opens_at s p) (sym k)
      where
        go : (o : Bool) → pick o (look_of s p note index) (Known None) ≡ Known d
            → pick o (judge s p (close_as_run s p note index)) NoGroup ≡ judge s p d
        go true e = let c : d ≡ close_as_run s p note index = rw e at (look_close s p note index) in ap (judge s p) (sym c)
        go false e = let n : d ≡ None = cc in rw n (sym (judge_nothing s p))
