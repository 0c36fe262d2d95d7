-- There are no more
-- sources than items.
use Prim.Native.Nat.{ℕ, suc, ◌+◌, ◌≤◌}
use native.Mathlib.Omega.{arith}
use mathlib.Core.Path.{◌≡◌, ap}
use mathlib.Core.List.{List, [], ◌∷◌, ◌++◌, map, flat_map}
use mathlib.Core.Bool.{Bool, true, false}
use lib.ListN.{length, length-append, length-map}
use lib.Dec.{eqb}
use Rattle.base.specs.Pick.{pick}
use Rattle.item.specs.Group.{Group}
use Rattle.definition_line.specs.Lines.{key_of}
use Rattle.standing.specs.GroupRecords.{Placed, item_count}
use Rattle.standing.proofs.Swept.{groups_of, placed_groups}
use Rattle.annotation.specs.Sources.{Source}
use Rattle.annotation.specs.Content.{placed_of, tally_of}
use Rattle.annotation.specs.Items.{is_in, first_uses, numbered_keys}
use Rattle.annotation.proofs.Numbers.{sources_in_order}

first_uses_by : (seen ks : List (List ℕ)) → length (first_uses seen ks) ≤ length ks
unfolding first_uses
first_uses_by seen [] = omega arith
first_uses_by seen (k ∷ ks) = go (is_in k seen) (first_uses_by (k ∷ seen) ks)
  where
    go : (t : Bool) → length (first_uses (k ∷ seen) ks) ≤ length ks → length (pick t [] (k ∷ []) ++ first_uses (k ∷ seen) ks) ≤ suc (length ks)
    go true h = omega arith
    go false h = omega arith

numbered_keys_by : (text : List ℕ) (ps : List Placed) → length (numbered_keys text ps) ≤ item_count (groups_of ps)
unfolding flat_map item_count
numbered_keys_by text [] = omega arith
numbered_keys_by text (p ∷ ps) = go (eqb p.standing 2) (numbered_keys_by text ps)
  where
    go : (t : Bool) → length (numbered_keys text ps) ≤ item_count (groups_of ps)
        → length (pick t (map (key_of text) p.group.items) [] ++ numbered_keys text ps) ≤ length p.group.items + item_count (groups_of ps)
    go true h = omega (arith, length-append (map (key_of text) p.group.items) (numbered_keys text ps), length-map p.group.items (key_of text))
    go false h = omega arith

pub sources_by : (text : List ℕ) (mode : ℕ) (all : List Group) (pool : List ℕ) → length (tally_of text mode all pool).sources ≤ item_count all
unfolding placed_of
sources_by text mode all pool =
    let e = ap length (sources_in_order text mode all pool) in
    let l = length-map (tally_of text mode all pool).sources (λ (s : Source). s.key) in
    let f = first_uses_by [] (numbered_keys text (placed_of text all pool)) in
    let k = numbered_keys_by text (placed_of text all pool) in
    let g : item_count (groups_of (placed_of text all pool)) ≡ item_count all = ap item_count (placed_groups _ text false 0 all) in
    omega arith
