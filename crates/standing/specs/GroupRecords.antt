-- Document 01, Layouts: the records of a sweep:
-- its groups with their standing, and their items.
use Rattle.std.specs.Prelude.{ℕ, ◌+◌, ◌-◌, Bool, length}
use mathlib.Core.List.{List, [], ◌∷◌, ◌++◌, flat_map}
use Rattle.item.specs.Group.{Group}
use Rattle.records.specs.ItemRecords.{records_of}
use Rattle.definition_line.specs.Lines.{in_line, group_end}

-- a group of the sweep, with its standing
pub record Placed : Type 0 where
  pub group : Group
  pub standing : ℕ

-- a group and its standing
abbrev pub placed : Group → ℕ → Placed
placed group standing = record { group = group; standing = standing }

-- "Group record, 5 u16: pair, first item (items, groups and entries count from 0), item count, standing"
unfoldable pub group_record : ℕ → Placed → List ℕ
group_record n p =
    p.group.at ∷ (group_end p.group - p.group.at) ∷ n ∷ length p.group.items ∷ p.standing ∷ []

-- the records of groups, the first of them having item number `n` as its first
unfoldable pub group_records : ℕ → List Placed → List ℕ
group_records n [] = []
group_records n (p ∷ ps) = group_record n p ++ group_records (n + length p.group.items) ps

-- how many items groups have
unfoldable pub item_count : List Group → ℕ
item_count [] = 0
item_count (g ∷ gs) = length g.items + item_count gs

-- Groups of the sweep, each with its standing: what `standing` gives for it, by whether it stands in a definition line. The group before
-- these ended at `from`, and `before` says whether it stood in a definition line.
unfoldable pub placed_by : (Bool → Group → ℕ) → List ℕ → Bool → ℕ → List Group → List Placed
placed_by standing text before from [] = []
placed_by standing text before from (g ∷ gs) =
    placed g (standing (in_line text before from g) g) ∷ placed_by standing text (in_line text before from g) (group_end g) gs

-- the records of the groups' items, none of them numbered
abbrev pub item_records : List Group → List ℕ
item_records = flat_map records_of
