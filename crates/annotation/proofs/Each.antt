-- What is said item by item: one more item record,
-- and all items of the groups, one after another.
use Prim.Native.Nat.{ℕ, ◌+◌, ◌*◌, ◌<◌}
use native.Mathlib.Omega.{arith}
use mathlib.Core.Path.{◌≡◌, refl, sym, subst}
use mathlib.Core.List.{List, [], ◌∷◌, ◌++◌, map, flat_map, append-nil, append_assoc}
use mathlib.Core.Bool.{Bool, true, false}
use lib.ListN.{length, length-append, length-map, get_or-append}
use lib.Dec.{eqb, ltb}
use borrow.Author.Tests.{ltb-true, ltb-false}
use Rattle.base.specs.Fold.{fold}
use Rattle.item.specs.declared.Item.{Item}
use Rattle.item.specs.Group.{Group}
use Rattle.records.specs.Widths.{item_width}
use Rattle.standing.specs.GroupRecords.{Placed, item_count}
use Rattle.standing.proofs.Swept.{groups_of}
use Rattle.records.specs.Fields.{field_at, item_field}
use Rattle.annotation.specs.Sources.{Source}
use Rattle.annotation.specs.Content.{Tally, tally, add_item, add_group, placed_of, tally_of}
use Rattle.annotation.specs.Items.{each_item}

-- one more record --------------------------------------------------------------------------------------------------------------------

-- the records before it stand as they did
pub cell_front : (rows row : List ℕ) (n k c : ℕ) → length rows ≡ item_width * n → k < n → c < item_width → item_field (rows ++ row) k c ≡ item_field rows k c
unfolding field_at
cell_front rows row n k c e h g = get_or-append rows row 0 (item_width * k + c) (omega (arith, e, h, g))

-- and they are as many as the items
pub count_more : {A : Type 0} (rows row : List ℕ) (xs : List A) (x : A) → length rows ≡ item_width * length xs → length row ≡ item_width
    → length (rows ++ row) ≡ item_width * length (xs ++ (x ∷ []))
count_more rows row xs x h l = omega (arith, length-append rows row, length-append xs (x ∷ []))

-- what holds at each place before it, and at its own
pub by_place : {A : Type 0} (P : ℕ → Type 0) (xs : List A) (x : A) → ((k : ℕ) → k < length xs → P k) → P (length xs)
    → (k : ℕ) → k < length (xs ++ (x ∷ [])) → P k
by_place P xs x front back k h = go (ltb k (length xs)) refl
  where
    go : (b : Bool) → ltb k (length xs) ≡ b → P k
    go true q = front k (ltb-true k (length xs) q)
    go false q =
        let e : length xs ≡ k = omega (arith, h, length-append xs (x ∷ []), ltb-false k (length xs) q) in
        subst P e back

-- all items --------------------------------------------------------------------------------------------------------------------------

pub each_length : {A : Type 0} (f : Bool → Item → A) (ps : List Placed) → length (each_item f ps) ≡ item_count (groups_of ps)
unfolding each_item flat_map item_count
each_length f [] = refl
each_length f (p ∷ ps) =
    let one = f (eqb p.standing 2) in
    omega (arith, length-append (map one p.group.items) (each_item f ps), length-map p.group.items one, each_length f ps)

-- A fact of the tally and of what `f` gives of the items so far that each item keeps, `last` being the sources at the end, is one of the
-- whole tally and all items.
module _ (text : List ℕ) (mode : ℕ) (all : List Group) (pool : List ℕ) {A : Type 0} (f : Bool → Item → A) (last : List Source)
    (P : Tally → List A → Type 0)
    (keeps : (p : Placed) (t : Tally) (i : Item) (is : List Item) (ps : List Placed) (xs : List A)
    → (fold (add_group text mode all pool) (fold (add_item text mode all pool p) (add_item text mode all pool p t i) is) ps).sources ≡ last
    → P t xs → P (add_item text mode all pool p t i) (xs ++ (f (eqb p.standing 2) i ∷ []))) where
  items_each : (p : Placed) (is : List Item) (ps : List Placed) (t : Tally) (xs : List A)
      → (fold (add_group text mode all pool) (fold (add_item text mode all pool p) t is) ps).sources ≡ last → P t xs
      → P (fold (add_item text mode all pool p) t is) (xs ++ map (f (eqb p.standing 2)) is)
  unfolding fold
  items_each p [] ps t xs e h = subst (P t) (sym (append-nil xs)) h
  items_each p (i ∷ is) ps t xs e h =
      subst (P (fold (add_item text mode all pool p) (add_item text mode all pool p t i) is))
      (append_assoc xs (f (eqb p.standing 2) i ∷ []) (map (f (eqb p.standing 2)) is))
      (items_each p is ps (add_item text mode all pool p t i) (xs ++ (f (eqb p.standing 2) i ∷ [])) e (keeps p t i is ps xs e h))

  groups_each : (ps : List Placed) (t : Tally) (xs : List A) → (fold (add_group text mode all pool) t ps).sources ≡ last → P t xs
      → P (fold (add_group text mode all pool) t ps) (xs ++ each_item f ps)
  unfolding fold add_group each_item flat_map
  groups_each [] t xs e h = subst (P t) (sym (append-nil xs)) h
  groups_each (p ∷ ps) t xs e h =
      subst (P (fold (add_group text mode all pool) (add_group text mode all pool t p) ps))
      (append_assoc xs (map (f (eqb p.standing 2)) p.group.items) (each_item f ps))
      (groups_each ps (add_group text mode all pool t p) (xs ++ map (f (eqb p.standing 2)) p.group.items) e
      (items_each p p.group.items ps t xs e h))

  pub tally_each : (tally_of text mode all pool).sources ≡ last → P (tally [] [] []) [] → P (tally_of text mode all pool) (each_item f (placed_of text all pool))
  unfolding tally_of
  tally_each = groups_each (placed_of text all pool) (tally [] [] []) []
