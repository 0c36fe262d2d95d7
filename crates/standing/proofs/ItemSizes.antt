-- How many bytes a group's items take: an item is no longer than its piece and the `;` or the bracket before it. Said of any weight of an
-- item, and so of 3 bytes for each: a good item has 2, `@` and a key, and the byte before it.
use Prim.Native.Nat.{ℕ, zero, suc, ◌+◌, ◌-◌, ◌*◌, ◌≤◌, ◌<◌}
use native.Mathlib.Omega.{arith}
use mathlib.Core.Path.{◌≡◌, refl}
use mathlib.Core.List.{List, [], ◌∷◌}
use mathlib.Core.Bool.{Bool, true, false}
use lib.ListN.{length}
use lib.Dec.{ltb}
use borrow.Author.Tests.{ltb-true}
use Rattle.std.specs.Prelude.{Some, None}
use Rattle.base.specs.Pick.{pick}
use Rattle.base.proofs.Searches.{first_from, first_holds}
use Rattle.text.specs.Trim.{trim_start, trim_end}
use Rattle.text.proofs.Trims.{start_from, end_by}
use Rattle.key.specs.Keys.{key_end}
use Rattle.item.specs.declared.Item.{Item}
use Rattle.item.specs.Items.{wins, winner, item_at, item_in, item_of}
use Rattle.item.proofs.Parts.{wins_by}
use Rattle.item.specs.Pieces.{stretch, semicolon_at, ends_piece, pieces_in, pieces, plus_at, items_start, pieces_of, parsed, kept, items_in, items_of}

-- the weights of items, added
unfoldable pub weight : (Item → ℕ) → List Item → ℕ
weight w [] = 0
weight w (i ∷ is) = w i + weight w is

-- an item whose `@` wins, in a stretch from `a` to `e`, weighs no more than the stretch and one byte
abbrev pub Light : List ℕ → (Item → ℕ) → Type 0
Light s w = (a e i : ℕ) → a ≤ i → wins s e i ≡ true → w (item_at s a e i (key_end s (i + 1))) ≤ e - a + 1

module _ (s : List ℕ) (w : Item → ℕ) (light : Light s w) where
  -- one item -----------------------------------------------------------------------------------------------------------------------

  winner_light : (a e : ℕ) → winner s a e < e → w (item_at s a e (winner s a e) (key_end s (winner s a e + 1))) ≤ e - a + 1
  unfolding winner
  winner_light a e h =
      let g = first_from (wins s e) (e - a) a in
      light a e _ g (first_holds (wins s e) (e - a) a (omega arith))

  -- what a stretch of `n` bytes at most adds to the items after it
  kept_weight : (a e n : ℕ) (rest : List Item) → e - a ≤ n → weight w (kept (item_in s a e) rest) ≤ n + 1 + weight w rest
  unfolding item_in weight
  kept_weight a e n rest h = go (ltb (winner s a e) e) refl (item_at s a e (winner s a e) (key_end s (winner s a e + 1))) (winner_light a e)
    where
      go : (t : Bool) → ltb (winner s a e) e ≡ t → (it : Item) → (winner s a e < e → w it ≤ e - a + 1)
          → weight w (kept (pick t (Some it) None) rest) ≤ n + 1 + weight w rest
      go true q it k = let z = k (ltb-true _ _ q) in omega arith
      go false q it k = omega arith

  -- the same before white space is trimmed
  item_weight : (a e : ℕ) (rest : List Item) → weight w (kept (item_of s a e) rest) ≤ e - a + 1 + weight w rest
  unfolding item_of
  item_weight a e rest =
      let y = start_from s a e in
      let z = end_by s (trim_start s a e) e in
      kept_weight (trim_start s a e) (trim_end s (trim_start s a e) e) (e - a) rest (omega arith)

  -- the items of a bracket ---------------------------------------------------------------------------------------------------------

  -- each piece but the last takes its `;` with it; a piece that began at `a` goes on at `i`, with `n` bytes left
  pieces_weight : (n a i : ℕ) → a ≤ i → weight w (items_in s (pieces_in n s a i)) ≤ i - a + n + 1
  unfolding items_in pieces_in parsed weight
  pieces_weight zero a i h = let k = item_weight a i [] in omega arith
  pieces_weight (suc n) a i h = go (semicolon_at s i) (pieces_weight n (i + 1) (i + 1) (omega arith)) (pieces_weight n a (i + 1) (omega arith))
    where
      go : (t : Bool) → weight w (items_in s (pieces_in n s (i + 1) (i + 1))) ≤ i + 1 - (i + 1) + n + 1
          → weight w (items_in s (pieces_in n s a (i + 1))) ≤ i + 1 - a + n + 1
          → weight w (items_in s (ends_piece t (stretch a i) (pieces_in n s (pick t (i + 1) a) (i + 1)))) ≤ i - a + suc n + 1
      go true new on = let k = item_weight a i (items_in s (pieces_in n s (i + 1) (i + 1))) in omega arith
      go false new on = omega arith

  -- the bracket's own byte stands for the `;` that the last piece lacks
  pub items_weight : (p c : ℕ) → p < c → weight w (items_of s p c) ≤ c - p
  unfolding items_of pieces_of pieces items_start
  items_weight p c h = go (plus_at s p)
    where
      go : (t : Bool) → weight w (items_in s (pieces_in (c - pick t (p + 2) (p + 1)) s (pick t (p + 2) (p + 1)) (pick t (p + 2) (p + 1)))) ≤ c - p
      go true = let k = pieces_weight (c - (p + 2)) (p + 2) (p + 2) (omega arith) in omega arith
      go false = let k = pieces_weight (c - (p + 1)) (p + 1) (p + 1) (omega arith) in omega arith

-- 3 bytes for each item --------------------------------------------------------------------------------------------------------------

abbrev pub three : Item → ℕ
three i = 3

pub three_light : (s : List ℕ) → Light s three
three_light s a e i h q = omega (arith, (wins_by s e i q).0, (wins_by s e i q).1)

pub three_weight : (is : List Item) → weight three is ≡ length is * 3
unfolding weight
three_weight [] = refl
three_weight (i ∷ is) = let h = three_weight is in omega arith

pub item_size : (s : List ℕ) (a e : ℕ) (rest : List Item) → length (kept (item_of s a e) rest) * 3 ≤ e - a + 1 + length rest * 3
item_size s a e rest =
    let h = item_weight s three (three_light s) a e rest in
    let x = three_weight (kept (item_of s a e) rest) in
    let y = three_weight rest in
    omega arith

pub items_size : (s : List ℕ) (p c : ℕ) → p < c → length (items_of s p c) * 3 ≤ c - p
items_size s p c h = let k = items_weight s three (three_light s) p c h in let x = three_weight (items_of s p c) in omega arith
