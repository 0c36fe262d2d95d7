-- Follows the code; nothing to believe: one turn of the sweep,
-- as the code takes it.
use Rattle.std.specs.Prelude.{ℕ, ◌<◌, ◌≡◌, List, [], Bool, true, false, length, None}
use Rattle.base.specs.Pick.{pick}
use Rattle.item.specs.Group.{Group}
use Rattle.sweep.specs.declared.group_records.SweepState.{SweepState}
use Rattle.index.specs.Entries.{opens_at}
use Rattle.resolve.specs.declared.Look.{Look}
use Rattle.resolve.specs.declared.Look.TheVariants.{Known}
use Rattle.resolve.specs.Resolve.{look_of}
use Rattle.sweep.specs.Stops.{stop, after, stop_from}
use Rattle.sweep.specs.Recording.{Counted, Recorded}

-- what the place `at` gives before any build: no close where no unescaped `[` stands
unfoldable pub step_at : List ℕ → ℕ → List ℕ → ℕ → Look
step_at text note index at = pick (opens_at text at) (look_of text at note index) (Known None)

-- a state of the sweep at another place
abbrev pub moved_to : SweepState → ℕ → Bool → SweepState
moved_to s at wants = record {
  at = at;
  groups = s.groups;
  items = s.items;
  inside = s.inside;
  from = s.from;
  fits = s.fits;
  wants = wants;
}

-- On the way from the state `s` to the state `r` the groups `found` were recorded, and the sweep from `s` on is those and the sweep from
-- `r` on.
pub record Onward (text : List ℕ) (note : ℕ) (index : List ℕ) (s : SweepState) (items groups : List ℕ) (r : SweepState)
    (items' groups' : List ℕ) : Type 0 where
  pub found : List Group
  pub goes_on : stop_from text note index s.at ≡ after found (stop_from text note index r.at)
  pub recorded : Recorded text found s items groups r items' groups'
  pub counted : Counted text r (length items) (length groups)

-- a turn stops at a bracket that wants a build, and otherwise goes on by a byte or more
pub record Turned (text : List ℕ) (note : ℕ) (index : List ℕ) (s : SweepState) (items groups : List ℕ) (r : SweepState)
    (items' groups' : List ℕ) : Type 0 where
  pub onward : Onward text note index s items groups r items' groups'
  pub stops : r.wants ≡ true → stop_from text note index r.at ≡ stop [] r.at true
  pub moves : r.wants ≡ false → s.at < r.at
