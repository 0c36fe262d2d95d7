-- Document 01, Added by design: the keys, numbers and uses of a text's items, item by item,
-- as demand 2 and the theorems speak of them.
use Rattle.std.specs.Prelude.{ℕ, ◌+◌, Bool, false, ◌||◌, eqb}
use mathlib.Core.List.{List, [], ◌∷◌, ◌++◌, map, flat_map}
use Rattle.std.proofs.Math.Option.{Option, none, some}
use Rattle.base.specs.Pick.{pick}
use Rattle.base.specs.Lists.{same}
use Rattle.item.specs.declared.Item.{Item}
use Rattle.definition_line.specs.Lines.{key_of}
use Rattle.annotation.specs.Sources.{Source, number_of}
use Rattle.standing.specs.GroupRecords.{Placed}

-- the keys of the items in numbered groups, in item order
abbrev pub numbered_keys : List ℕ → List Placed → List (List ℕ)
numbered_keys text = flat_map (λ (p : Placed). pick (eqb p.standing 2) (map (key_of text) p.group.items) [])

-- a key is one of some
unfoldable pub is_in : List ℕ → List (List ℕ) → Bool
is_in key [] = false
is_in key (k ∷ ks) = same k key || is_in key ks

-- those of some keys that are none of the keys before them; `seen` were before all
unfoldable pub first_uses : List (List ℕ) → List (List ℕ) → List (List ℕ)
first_uses seen [] = []
first_uses seen (k ∷ ks) = pick (is_in k seen) [] (k ∷ []) ++ first_uses (k ∷ seen) ks

-- what a function gives of each item, by whether its group is numbered, in item order
unfoldable pub each_item : {A : Type 0} → (Bool → Item → A) → List Placed → List A
each_item f = flat_map (λ (p : Placed). map (f (eqb p.standing 2)) p.group.items)

-- the numbers of the items: in a numbered group that of the item's source, in another 0
abbrev pub item_numbers : List ℕ → List Source → List Placed → List ℕ
item_numbers text sources = each_item (λ numbered i. pick numbered (number_of (key_of text i) sources) 0)

-- the keys of the items: in a numbered group the item's, in another nothing
abbrev pub item_keys : List ℕ → List Placed → List (Option (List ℕ))
item_keys text = each_item (λ numbered i. pick numbered (some (key_of text i)) none)

-- how many of some items have this key
unfoldable pub uses_in : List ℕ → List (Option (List ℕ)) → ℕ
uses_in key [] = 0
uses_in key (none ∷ is) = uses_in key is
uses_in key (some k ∷ is) = pick (same k key) 1 0 + uses_in key is

-- the use of an item after others: "With a pool present, use indices of a source run 1, 2, and on. Without a pool they are 0."
unfoldable pub use_after : Bool → List (Option (List ℕ)) → Option (List ℕ) → ℕ
use_after pooled before none = 0
use_after pooled before (some key) = pick pooled (uses_in key before + 1) 0
