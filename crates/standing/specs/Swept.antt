-- Follows the code; nothing to believe: the groups of a sweep
-- before their keys are known to be defined.
use Rattle.std.specs.Prelude.{ℕ, List, [], ◌∷◌, Bool}
use Rattle.base.specs.Pick.{pick}
use Rattle.item.specs.Group.{Group}
use Rattle.definition_line.specs.Lines.{in_line, group_end}
use Rattle.standing.specs.GroupRecords.{Placed, placed_by}

-- What is known of a group's standing in the sweep: 0 in a definition line, and 1 elsewhere until its keys are known to be defined.
abbrev pub swept_from : List ℕ → Bool → ℕ → List Group → List Placed
swept_from = placed_by (λ inside g. pick inside 0 1)

-- whether the last of some groups stands in a definition line
unfoldable pub inside_after : List ℕ → Bool → ℕ → List Group → Bool
inside_after text before from [] = before
inside_after text before from (g ∷ gs) = inside_after text (in_line text before from g) (group_end g) gs

-- where the last of some groups ends
unfoldable pub end_after : ℕ → List Group → ℕ
end_after from [] = from
end_after from (g ∷ gs) = end_after (group_end g) gs
