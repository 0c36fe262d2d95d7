-- Follows the code; nothing to believe: the sweep as the code runs it: with one note and one index up to a bracket that wants a build,
-- and on from there after the build.
use Rattle.std.specs.Prelude.{ℕ, zero, suc, ◌≡◌, List, [], ◌++◌, Bool, true, false, length, ltb}
use Rattle.base.specs.Pick.{pick}
use Rattle.item.specs.Group.{Group}
use Rattle.sweep.specs.declared.group_records.SweepState.{SweepState}
use Rattle.sweep.specs.Recording.{Counted, Recorded}
use Rattle.sweep.specs.Sweep.{found_groups, next_at, found_with, wants_at}

-- the groups found, where the sweep stands, and whether the bracket there wants a build
pub record Stop : Type 0 where
  pub groups : List Group
  pub at : ℕ
  pub wants : Bool

-- the groups so far, the place, and whether a build is wanted there
abbrev pub stop : List Group → ℕ → Bool → Stop
stop groups at wants = record { groups = groups; at = at; wants = wants }

-- the groups before those of a stop
abbrev pub after : List Group → Stop → Stop
after gs s = stop (gs ++ s.groups) s.at s.wants

-- the sweep from `at` on, in `n` turns at most
unfoldable pub stop_in : ℕ → List ℕ → ℕ → List ℕ → ℕ → Stop
stop_in zero text note index at = stop [] at false
stop_in (suc n) text note index at =
    pick (ltb at (length text))
    (pick (wants_at text note at) (stop [] at true)
    (after (found_groups (found_with text note index at)) (stop_in n text note index (next_at at (found_with text note index at)))))
    (stop [] at false)

-- as many turns as the text has bytes are enough
unfoldable pub stop_from : List ℕ → ℕ → List ℕ → ℕ → Stop
stop_from text note index at = stop_in (length text) text note index at

-- the state before the first group
abbrev pub start_state : SweepState
start_state = record { at = 0; groups = 0; items = 0; inside = false; from = 0; fits = true; wants = false }

-- the sweep from the state `s` on gives the state `r`
pub record SweptTo (text : List ℕ) (note : ℕ) (index : List ℕ) (s : SweepState) (items groups : List ℕ) (r : SweepState)
    (items' groups' : List ℕ) : Type 0 where
  pub stands : r.at ≡ (stop_from text note index s.at).at
  pub builds : r.wants ≡ (stop_from text note index s.at).wants
  pub records : Recorded text (stop_from text note index s.at).groups s items groups r items' groups'
  pub counted : Counted text r (length items) (length groups)
