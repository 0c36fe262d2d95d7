-- Whether a group stands in a definition line, in the form of the code's goals:
-- `b` and `r` are what calls gave.
use Prim.Native.Nat.{ℕ, ◌+◌, ◌-◌, ◌*◌, ◌≤◌}
use native.Mathlib.Omega.{arith}
use mathlib.Core.Path.{◌≡◌, refl, sym, ◌∙◌, ap}
use mathlib.Core.List.{List, [], ◌∷◌}
use mathlib.Core.Bool.{Bool, true, false, ◌&&◌, not, and-false, and-true, true≢false}
use lib.ListN.{length}
use lib.Dec.{leb, ltb}
use borrow.Author.Tests.{lt-ltb, le-ltb, leb-true, leb-false, ltb-true, ltb-false}
use Rattle.std.specs.Prelude.{Option, Some, None}
use Rattle.base.specs.First.{first}
use Rattle.base.proofs.Searches.{first_by}
use Rattle.base.proofs.Bools.{and_right}
use Rattle.item.specs.declared.Item.{Item}
use Rattle.item.specs.Items.{item_of, is_good}
use Rattle.item.specs.Pieces.{semicolon_at, pieces, items_start, pieces_of, all_good, kept, items_in, items_of}
use Rattle.item.proofs.Pieces.{piece_by, pieces_more, pieces_last, items_more, items_last, first_good, rest_good, items_count}
use Rattle.item.specs.Group.{good_items, group_of}
use Rattle.resolve.specs.Groups.{barred, group_accepted}
use Rattle.definition_line.specs.Lines.{break_at, starts_line, bare_item, only_key, colon_after, defines, in_line}
use Rattle.standing.specs.Stands.{GroupFrom}
use Rattle.standing.proofs.ItemSizes.{item_size}

-- there is a piece
some_piece : (s : List ℕ) (a e : ℕ) → 1 ≤ length (pieces s a e)
some_piece s a e = go (ltb q e) refl
  where
    q : ℕ
    q = first (semicolon_at s) (e - a) a

    go : (t : Bool) → ltb q e ≡ t → 1 ≤ length (pieces s a e)
    go true h = rw (pieces_more s a e refl (ltb-true q e h)) (omega arith)
    go false h = rw (pieces_last s a e refl (ltb-false q e h)) (omega arith)

-- one good piece and no other: it ends at the close
module _ (s : List ℕ) (a e : ℕ) (g : all_good s (pieces s a e) ≡ true) (one : length (items_in s (pieces s a e)) ≡ 1) where
  one_item : items_in s (pieces s a e) ≡ kept (item_of s a e) []
  one_item = go (ltb q e) refl
    where
      q : ℕ
      q = first (semicolon_at s) (e - a) a

      two : (r : Option Item) (n : ℕ) (rest : List Item) → is_good r ≡ true → n ≡ length rest → 1 ≤ n → length (kept r rest) ≡ 1 → ⊥
      two (Some it) n rest h m k l = omega arith
      two None n rest h m k l = let z : ◌≡◌ {A = ℕ} 0 1 = cc in omega arith

      few : (n : ℕ) → n * 3 ≤ q - a + 1 → n ≡ 1 → q ≤ a → ⊥
      few n h k l = omega arith

      ends : e ≤ q → leb a e ≡ true → items_in s (pieces s a e) ≡ kept (item_of s a e) []
      ends h k =
          let l = piece_by s a e refl (leb-true a e k) in
          let m : q ≡ e = omega arith in
          items_last s a e refl h ∙ ap (λ (i : ℕ). kept (item_of s a i) []) m

      last : e ≤ q → (t : Bool) → leb a e ≡ t → items_in s (pieces s a e) ≡ kept (item_of s a e) []
      last h true k = ends h k
      last h false k =
          let l = leb-false a e k in
          let m = first_by (semicolon_at s) (e - a) a in
          absurd
          (few (length (kept (item_of s a q) []))
          (let z = item_size s a q [] in omega arith)
          (sym (ap length (items_last s a e refl h)) ∙ one)
          (omega arith))

      go : (t : Bool) → ltb q e ≡ t → items_in s (pieces s a e) ≡ kept (item_of s a e) []
      go true h =
          let l = ltb-true q e h in
          absurd
          (two (item_of s a q) (length (pieces s (q + 1) e)) (items_in s (pieces s (q + 1) e))
          (first_good s a e refl g)
          (sym (items_count s (pieces s (q + 1) e) (rest_good s a e refl g l)))
          (some_piece s (q + 1) e)
          (sym (ap length (items_more s a e refl l)) ∙ one))
      go false h = last (ltb-false q e h) (leb a e) refl

module _ (s : List ℕ) (p c n : ℕ) (h : GroupFrom s p c n) where
  all_good_lem : all_good s (pieces_of s p c) ≡ true
  unfolding group_accepted good_items
  all_good_lem = and_right (not (barred s c)) _ h.good

  only_one : n ≡ 1 → items_of s p c ≡ kept (item_of s (items_start s p) c) []
  unfolding items_of pieces_of
  only_one e = one_item s (items_start s p) c all_good_lem (sym h.counts ∙ e)

  module _ {a : ℕ} (e : n ≡ 1) (i : a ≡ items_start s p) where
    pub only_good : {it : Item} {b : Bool} → Some it ≡ item_of s a c → b ≡ bare_item it → b ≡ only_key (items_of s p c)
    unfolding only_key
    only_good {it} g b = let z : item_of s (items_start s p) c ≡ Some it = cc in b ∙ rw (only_one e, z)

    pub only_bad : None ≡ item_of s a c → false ≡ only_key (items_of s p c)
    unfolding only_key
    only_bad g = let z : item_of s (items_start s p) c ≡ None = cc in rw (only_one e, z)

  pub only_more : (n ≡ 1 → ⊥) → false ≡ only_key (items_of s p c)
  unfolding only_key
  only_more e = go (items_of s p c) h.counts
    where
      go : (l : List Item) → n ≡ length l → false ≡ only_key l
      go [] k = refl
      go (x ∷ []) k = absurd (e k)
      go (x ∷ y ∷ l) k = refl

module _ (s : List ℕ) (p c : ℕ) {b : Bool} (q : b ≡ (starts_line s p && colon_after s c)) where
  other : (x y z : Bool) → (x && z) ≡ false → false ≡ (x && y && z)
  other true y z h = rw h (sym (and-false y))
  other false y z h = refl

  same : (x y z : Bool) → (x && z) ≡ true → y ≡ (x && y && z)
  same true y z h = rw h (sym (and-true y))
  same false y z h = absurd (true≢false (sym h))

  pub no_place : b ≡ false → false ≡ defines s (group_of s p c)
  unfolding defines group_of
  no_place f = other (starts_line s p) (only_key (items_of s p c)) (colon_after s c) (sym q ∙ f)

  pub by_key : {r : Bool} → b ≡ true → r ≡ only_key (items_of s p c) → r ≡ defines s (group_of s p c)
  unfolding defines group_of
  by_key t k = k ∙ same (starts_line s p) (only_key (items_of s p c)) (colon_after s c) (sym q ∙ t)

at_most : (k a : ℕ) → leb a k ≡ not (ltb k a)
at_most k a = go (leb a k) refl
  where
    go : (t : Bool) → leb a k ≡ t → t ≡ not (ltb k a)
    go true h = rw (le-ltb k a (leb-true a k h))
    go false h = rw (lt-ltb k a (leb-false a k h))

module _ (s : List ℕ) (before : Bool) (from p c : ℕ) {b : Bool} (q : b ≡ defines s (group_of s p c)) where
  pub line_starts : b ≡ true → true ≡ in_line s before from (group_of s p c)
  unfolding in_line
  line_starts t = rw (sym q ∙ t)

  pub line_goes_on : {k : ℕ} → b ≡ false → before ≡ true → k ≡ break_at s from p → leb p k ≡ in_line s before from (group_of s p c)
  unfolding in_line group_of
  line_goes_on f t e = rw (sym q ∙ f, t, ← e) (at_most _ p)

  pub line_none : b ≡ false → before ≡ false → false ≡ in_line s before from (group_of s p c)
  unfolding in_line
  line_none f g = rw (sym q ∙ f, g)
