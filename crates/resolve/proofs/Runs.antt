-- The close that the code finds, the build between its two halves,
-- is the close as run.
use Prim.Native.Nat.{ℕ}
use mathlib.Core.Path.{◌≡◌, refl}
use mathlib.Core.List.{List}
use mathlib.Core.Bool.{Bool, true, false, ◌&&◌, not}
use Rattle.std.specs.Prelude.{Option}
use Rattle.base.specs.Pick.{pick}
use Rattle.index.specs.Built.{built_index, index_after}
use Rattle.resolve.specs.declared.Look.{Look}
use Rattle.resolve.specs.declared.Look.TheVariants.{Known, Build}
use Rattle.resolve.specs.Resolve.{is_built, stored_close, short_look, shortened, look_of, is_build, close_after, close_as_run, wants_build}
use Rattle.resolve.specs.Looks.{Inside}
use Rattle.resolve.proofs.Laws.{look_inside, after_inside}

module _ (s : List ℕ) (at note : ℕ) (index : List ℕ) where
  -- a look asks for the build exactly where the call as run wants one
  pub look_wants : is_build (look_of s at note index) ≡ wants_build s at note
  unfolding look_of wants_build
  look_wants = go (is_built note) (stored_close s at index)
    where
      go : (t : Bool) (d : Option ℕ) → is_build (pick t (Known d) (shortened s at (short_look s at))) ≡ not t && is_build (shortened s at (short_look s at))
      go true d = refl
      go false d = refl

  -- and then the close after it is that of the call as run
  pub look_close : close_after s at (index_after (is_build (look_of s at note index)) s index) (look_of s at note index) ≡ close_as_run s at note index
  unfolding close_as_run close_after index_after
  look_close = go (look_of s at note index)
    where
      go : (l : Look) → close_after s at (index_after (is_build l) s index) l ≡ close_after s at (built_index s index) l
      go (Known d) = refl
      go Build = refl

  -- which so lies after its bracket, in the text, at a `]`
  pub run_inside : Inside s at (close_as_run s at note index)
  unfolding close_as_run
  run_inside = after_inside s at (built_index s index) (look_of s at note index) (look_inside s at note index)
