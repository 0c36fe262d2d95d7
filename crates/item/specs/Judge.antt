-- Follows the code; nothing to believe: the judgement on the items between a bracket and its close,
-- by the first bad one.
use Rattle.std.specs.Prelude.{ℕ, suc, List, [], ◌∷◌, length, Result, Ok, Err}
use Rattle.item.specs.declared.BadItem.{BadItem}
use Rattle.base.specs.Pick.{pick}
use Rattle.item.specs.Items.{is_good}
use Rattle.item.specs.Pieces.{Stretch, parsed, all_good, pieces_of}

-- the number, from 0, of the first piece that is no good item; how many pieces there are where all are good
unfoldable pub first_bad : List ℕ → List Stretch → ℕ
first_bad s [] = 0
first_bad s (q ∷ qs) = pick (is_good (parsed s q)) (suc (first_bad s qs)) 0

-- the bad item with this number
abbrev pub bad_item_at : ℕ → BadItem
bad_item_at n = record { item = n }

-- all good: how many; else which is the first bad one
unfoldable pub judged_in : List ℕ → List Stretch → Result ℕ BadItem
judged_in s qs = pick (all_good s qs) (Ok (length qs)) (Err (bad_item_at (first_bad s qs)))

-- the pieces of the bracket at `p` with its close at `c`
unfoldable pub judged_of : List ℕ → ℕ → ℕ → Result ℕ BadItem
judged_of s p c = judged_in s (pieces_of s p c)
