-- Follows the code; nothing to believe: the second half of a look-up
-- that was refused with any number.
use Rattle.std.specs.Prelude.{ℕ, ◌≤◌, ◌<◌, List, Bool, false, length, Result, Ok, Err}
use Rattle.base.specs.Refusals.{number_of}
use Rattle.base.specs.declared.refusal.Refusal.{Refusal}
use Rattle.resolve.specs.declared.Group.{Group}
use Rattle.resolve.specs.declared.Look.{Look}
use Rattle.resolve.specs.Resolve.{is_build}
use Rattle.resolve.specs.Looks.{LookInside}
use Rattle.lookup.specs.declared.LookUp.{LookUp}
use Rattle.lookup.specs.declared.numbered.LookUpNumbered.{LookUpNumbered}
use Rattle.lookup.specs.Halves.{finished_of, finished_items}

-- the prepared look-up asks for a build
unfoldable pub numbered_wants : Result Look ℕ → Bool
numbered_wants (Ok l) = is_build l
numbered_wants (Err number) = false

-- what the second half asks for of the first: nothing of one that was refused
abbrev pub CanFinishNumbered : List ℕ → ℕ → Result Look ℕ → Type 0
CanFinishNumbered s at (Ok l) = (length s ≤ 65535) × (at < length s) × LookInside s at l
CanFinishNumbered s at (Err number) = Unit {0}

-- a group, or the number of its refusal
abbrev pub numbered_group : Result Group Refusal → Result Group ℕ
numbered_group (Ok g) = Ok g
numbered_group (Err e) = Err (number_of e)

-- an answer with the number of its refusal
abbrev pub numbered : LookUp → LookUpNumbered
numbered a = record { group = numbered_group a.group; note = a.note }

-- after the build: the answer, the index being as it is then; one that was refused gives its number and the note back
unfoldable pub numbered_finished : List ℕ → ℕ → ℕ → Result Look ℕ → List ℕ → List ℕ → LookUpNumbered
numbered_finished s at note (Ok l) index items = numbered (finished_of s at note (Ok l) index items)
numbered_finished s at note (Err number) index items = record { group = Err number; note = note }

-- the item area after the second half, the index being as it is after the build; one that was refused leaves it as it was
unfoldable pub numbered_items : List ℕ → ℕ → Result Look ℕ → List ℕ → List ℕ → List ℕ
numbered_items s at (Ok l) index items = finished_items s at (Ok l) index items
numbered_items s at (Err number) index items = items
