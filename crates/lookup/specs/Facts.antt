-- Theorems: what the paper claims of look-ups: the plain answer, the index that they leave, and its length;
-- proved in proofs/.
use Rattle.std.specs.Prelude.{ℕ, ◌≡◌, List, length}
use Rattle.index.specs.declared.Bracket.{Bracket}
use Rattle.lookup.specs.LookUps.{look_up_plain, look_up_run}
use Rattle.resolve.specs.Lefts.{Left}
use Rattle.resolve.specs.Keeps.{Keeps}

-- With an index and a note "as earlier calls on that text left them" the call as run gives its plain answer.
abbrev pub LookUpTrue : Type 0
LookUpTrue =
    (s : List ℕ) (at note : ℕ) (index : List ℕ) (records : List Bracket) (items : List ℕ)
    → Left s index note
    → (look_up_run s at note index records items).answer ≡ look_up_plain s at (length index) (length records) items

-- a look-up that is lent an index and a note as earlier calls left them leaves such an index and note
abbrev pub LookUpLeaves : Type 0
LookUpLeaves =
    (s : List ℕ) (at note : ℕ) (index : List ℕ) (records : List Bracket) (items : List ℕ)
    → Left s index note
    → Left s (look_up_run s at note index records items).index (look_up_run s at note index records items).note

-- a look-up keeps the index area's length, and all of the area where it is lent too little
abbrev pub LookUpKeeps : Type 0
LookUpKeeps =
    (s : List ℕ) (at note : ℕ) (index : List ℕ) (records : List Bracket) (items : List ℕ)
    → Keeps s index (look_up_run s at note index records items).index note (look_up_run s at note index records items).note
