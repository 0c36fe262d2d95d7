-- The sources of an annotation are defined:
-- only groups whose keys all are get numbers.
use Prim.Native.Nat.{ℕ, zero, suc, ◌+◌, ◌-◌, ◌≤◌, ◌<◌}
use native.Mathlib.Omega.{arith}
use mathlib.Core.Path.{◌≡◌, refl, sym, subst}
use mathlib.Core.List.{List, [], ◌∷◌, map, flat_map}
use mathlib.Core.Bool.{Bool, true, false}
use lib.ListN.{length, get_or}
use lib.Dec.{eqb}
use Rattle.base.specs.Pick.{pick}
use Rattle.base.specs.Fold.{fold}
use Rattle.base.specs.Lists.{same}
use Rattle.base.specs.Sorted.{Each}
use Rattle.item.specs.declared.Item.{Item}
use Rattle.base.proofs.Bools.{and_left, and_right}
use Rattle.item.specs.Group.{Group}
use Rattle.definition_line.specs.Lines.{key_of, in_line, group_end}
use Rattle.definition.specs.Defs.{def_of, is_defined}
use Rattle.annotation.specs.Sources.{Source, source, source_key, used}
use Rattle.standing.specs.GroupRecords.{placed_by}
use Rattle.annotation.specs.Content.{all_defined, standing_of, placed_from, placed_of, tally_of}
use Rattle.annotation.specs.Items.{numbered_keys}
use Rattle.annotation.proofs.Numbers.{step, tally_uses}
use Rattle.annotation.proofs.Found.{each_append}

-- what holds of the keys that are used holds of those of the sources
module _ (P : List ℕ → Type 0) where
  abbrev OfKey : Source → Type 0
  OfKey s = P s.key

  used_each : (key : List ℕ) (ss : List Source) → P key → Each OfKey ss → Each OfKey (used key ss)
  unfolding used
  used_each key [] p h = (p, tt)
  used_each key (s ∷ ss) p h = go (same s.key key) (used_each key ss p h.1)
    where
      go : (t : Bool) → Each OfKey (used key ss) → Each OfKey (pick t (source s.key (s.uses + 1) ∷ ss) (s ∷ used key ss))
      go true r = h
      go false r = (h.0, r)

  fold_each : (ks : List (List ℕ)) (ss : List Source) → Each P ks → Each OfKey ss → Each OfKey (fold step ss ks)
  unfolding fold
  fold_each [] ss h g = g
  fold_each (k ∷ ks) ss h g = fold_each ks (used k ss) h.1 (used_each k ss h.0 g)

  key_at_lem : (ss : List Source) (j : ℕ) → Each OfKey ss → j < length ss → P (get_or (map (λ (s : Source). s.key) ss) j [])
  key_at_lem [] j h l = absurd (omega arith)
  key_at_lem (s ∷ ss) zero h l = h.0
  key_at_lem (s ∷ ss) (suc j) h l = key_at_lem ss j h.1 (omega arith)

module _ (text : List ℕ) (all : List Group) (pool : List ℕ) where
  abbrev Defined : List ℕ → Type 0
  Defined key = is_defined (def_of text all pool key) ≡ true

  items_defined : (is : List Item) → all_defined text all pool is ≡ true → Each Defined (map (key_of text) is)
  unfolding all_defined
  items_defined [] h = tt
  items_defined (i ∷ is) h =
      (and_left (is_defined (def_of text all pool (key_of text i))) _ h, items_defined is (and_right (is_defined (def_of text all pool (key_of text i))) _ h))

  -- a group's keys are numbered where it stands in no definition line and all are defined
  group_defined : (inside defined : Bool) (is : List Item) → all_defined text all pool is ≡ defined
      → Each Defined (pick (eqb (standing_of inside defined) 2) (map (key_of text) is) [])
  unfolding standing_of
  group_defined true defined is h = tt
  group_defined false true is h = items_defined is h
  group_defined false false is h = tt

  keys_defined_lem : (before : Bool) (from : ℕ) (gs : List Group) → Each Defined (numbered_keys text (placed_from text all pool before from gs))
  unfolding flat_map placed_by
  keys_defined_lem before from [] = tt
  keys_defined_lem before from (g ∷ gs) =
      each_append Defined (pick (eqb (standing_of (in_line text before from g) (all_defined text all pool g.items)) 2) (map (key_of text) g.items) [])
      (numbered_keys text (placed_from text all pool (in_line text before from g) (group_end g) gs))
      (group_defined (in_line text before from g) (all_defined text all pool g.items) g.items refl)
      (keys_defined_lem (in_line text before from g) (group_end g) gs)

pub source_defined : (text : List ℕ) (mode : ℕ) (all : List Group) (pool : List ℕ) (k : ℕ) → 1 ≤ k → k ≤ length (tally_of text mode all pool).sources
    → is_defined (def_of text all pool (source_key (tally_of text mode all pool).sources k)) ≡ true
unfolding source_key placed_of
source_defined text mode all pool k h l =
    key_at_lem (Defined text all pool) (tally_of text mode all pool).sources (k - 1)
    (subst (λ (ss : List Source). Each (OfKey (Defined text all pool)) ss) (sym (tally_uses text mode all pool))
    (fold_each (Defined text all pool) (numbered_keys text (placed_from text all pool false 0 all)) [] (keys_defined_lem text all pool false 0 all) tt))
    (omega arith)
