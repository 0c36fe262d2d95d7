-- The groups of a sweep with their standings:
-- the groups alone, and how many they are.
use Prim.Native.Nat.{ℕ}
use mathlib.Core.Path.{◌≡◌, refl, sym, ◌∙◌, ap}
use mathlib.Core.List.{List, [], ◌∷◌, map}
use mathlib.Core.Bool.{Bool}
use lib.ListN.{length, length-map}
use Rattle.item.specs.Group.{Group}
use Rattle.definition_line.specs.Lines.{in_line, group_end}
use Rattle.standing.specs.GroupRecords.{Placed, placed_by}

-- the groups alone
abbrev pub groups_of : List Placed → List Group
groups_of = map (λ (p : Placed). p.group)

module _ (standing : Bool → Group → ℕ) (text : List ℕ) where
  pub placed_groups : (before : Bool) (from : ℕ) (gs : List Group) → groups_of (placed_by standing text before from gs) ≡ gs
  unfolding placed_by
  placed_groups before from [] = refl
  placed_groups before from (g ∷ gs) = ap (λ (hs : List Group). g ∷ hs) (placed_groups (in_line text before from g) (group_end g) gs)

  pub placed_length : (before : Bool) (from : ℕ) (gs : List Group) → length (placed_by standing text before from gs) ≡ length gs
  placed_length before from gs = sym (length-map (placed_by standing text before from gs) (λ (p : Placed). p.group)) ∙ ap length (placed_groups before from gs)
