-- Follows the code; nothing to believe: a look-up in two halves
-- around the build of the index.
use Rattle.std.specs.Prelude.{ℕ, ◌≤◌, ◌<◌, List, Bool, false, length, Result, Ok, Err}
use Rattle.base.specs.Refusals.{answered}
use Rattle.base.specs.declared.refusal.Refusal.{Refusal}
use Rattle.lookup.specs.declared.LookUp.{LookUp}
use Rattle.resolve.specs.declared.Look.{Look}
use Rattle.resolve.specs.Groups.{judge}
use Rattle.resolve.specs.Resolve.{look_of, is_build, close_after, note_after}
use Rattle.resolve.specs.Looks.{LookInside}
use Rattle.lookup.specs.Refusals.{look_up_refusal}
use Rattle.lookup.specs.LookUps.{look_up_answers}
use Rattle.lookup.specs.Values.{look_up_returns}

-- before the build: a refusal, or what the bracket gives; `m` bracket records are lent
unfoldable pub prepared_of : List ℕ → ℕ → ℕ → List ℕ → ℕ → Result Look Refusal
prepared_of s at note index m = answered (look_up_refusal s at (length index) m) (look_of s at note index)

-- the prepared look-up asks for a build
unfoldable pub prepared_wants : Result Look Refusal → Bool
prepared_wants (Ok l) = is_build l
prepared_wants (Err e) = false

-- what the second half asks for of the first
abbrev pub CanFinish : List ℕ → ℕ → Result Look Refusal → Type 0
CanFinish s at (Ok l) = (length s ≤ 65535) × (at < length s) × LookInside s at l
CanFinish s at (Err e) = Unit {0}

-- after the build: the answer, the index being as it is then
unfoldable pub finished_of : List ℕ → ℕ → ℕ → Result Look Refusal → List ℕ → List ℕ → LookUp
finished_of s at note (Ok l) index items =
    look_up_returns (look_up_answers (judge s at (close_after s at index l)) items) (note_after (is_build l) note)
finished_of s at note (Err e) index items = record { group = Err e; note = note }

-- the item area after the second half, the index being as it is after the build
unfoldable pub finished_items : List ℕ → ℕ → Result Look Refusal → List ℕ → List ℕ → List ℕ
finished_items s at (Ok l) index items = (look_up_answers (judge s at (close_after s at index l)) items).items
finished_items s at (Err e) index items = items
