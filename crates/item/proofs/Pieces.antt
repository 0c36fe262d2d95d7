-- The pieces between a bracket and its close, one whole piece at a time:
-- the first ends at the first `;`, and the others follow it.
use Prim.Native.Nat.{ℕ, zero, suc, ◌+◌, ◌-◌, ◌≤◌, ◌<◌}
use native.Mathlib.Omega.{arith}
use mathlib.Core.Path.{◌≡◌, refl, sym, ◌∙◌, ap}
use mathlib.Core.List.{List, [], ◌∷◌}
use mathlib.Core.Bool.{Bool, true, false, ◌&&◌, and-true, true≢false}
use lib.ListN.{length}
use lib.Dec.{ltb}
use borrow.Author.Tests.{ltb-true, ltb-false}
use Rattle.std.specs.Prelude.{Option, Some, None}
use Rattle.base.specs.Pick.{pick}
use Rattle.base.specs.First.{first}
use Rattle.base.proofs.Bools.{and_left, and_right}
use Rattle.base.proofs.Searches.{first_from, first_by}
use Rattle.item.specs.declared.Item.{Item}
use Rattle.item.specs.Items.{item_of, is_good}
use Rattle.item.specs.Pieces.{Stretch, stretch, semicolon_at, ends_piece, pieces_in, pieces, plus_at, items_start, parsed, all_good, kept, items_in}

-- a piece that began at `a` and goes on at `i`, with a `;` among the `n` bytes left
in_more : (n : ℕ) (s : List ℕ) (a i q : ℕ) → q ≡ first (semicolon_at s) n i → q < i + n
    → pieces_in n s a i ≡ stretch a q ∷ pieces_in (i + n - (q + 1)) s (q + 1) (q + 1)
unfolding pieces_in first
in_more zero s a i q p h = absurd (omega arith)
in_more (suc n) s a i q p h = go (semicolon_at s i) p (λ d. in_more n s a (i + 1) q d (omega arith))
  where
    go : (t : Bool) → q ≡ pick t i (first (semicolon_at s) n (i + 1))
        → (q ≡ first (semicolon_at s) n (i + 1) → pieces_in n s a (i + 1) ≡ stretch a q ∷ pieces_in (i + 1 + n - (q + 1)) s (q + 1) (q + 1))
        → ends_piece t (stretch a i) (pieces_in n s (pick t (i + 1) a) (i + 1))
        ≡ stretch a q ∷ pieces_in (i + suc n - (q + 1)) s (q + 1) (q + 1)
    go true d rest = let e : i + suc n - (i + 1) ≡ n = omega arith in rw (d, e)
    go false d rest = let e : i + suc n - (q + 1) ≡ i + 1 + n - (q + 1) = omega arith in rw e (rest d)

-- and with none
in_last : (n : ℕ) (s : List ℕ) (a i q : ℕ) → q ≡ first (semicolon_at s) n i → i + n ≤ q → pieces_in n s a i ≡ stretch a q ∷ []
unfolding pieces_in first
in_last zero s a i q p h = rw p
in_last (suc n) s a i q p h = go (semicolon_at s i) p (λ d. in_last n s a (i + 1) q d (omega arith))
  where
    go : (t : Bool) → q ≡ pick t i (first (semicolon_at s) n (i + 1))
        → (q ≡ first (semicolon_at s) n (i + 1) → pieces_in n s a (i + 1) ≡ stretch a q ∷ [])
        → ends_piece t (stretch a i) (pieces_in n s (pick t (i + 1) a) (i + 1)) ≡ stretch a q ∷ []
    go true d rest = absurd (omega arith)
    go false d rest = rest d

-- the stretch from `a` to `e`, its first piece ending at `q`
module _ (s : List ℕ) (a e : ℕ) {q : ℕ} (p : q ≡ first (semicolon_at s) (e - a) a) where
  pub piece_from : a ≤ q
  piece_from = omega (arith, first_from (semicolon_at s) (e - a) a)

  pub piece_by : a ≤ e → q ≤ e
  piece_by h = omega (arith, first_by (semicolon_at s) (e - a) a)

  pub pieces_more : q < e → pieces s a e ≡ stretch a q ∷ pieces s (q + 1) e
  unfolding pieces
  pieces_more h =
      let f = piece_from in
      let d : a + (e - a) - (q + 1) ≡ e - (q + 1) = omega arith in
      rw d at (in_more (e - a) s a a q p (omega arith))

  pub pieces_last : e ≤ q → pieces s a e ≡ stretch a q ∷ []
  unfolding pieces
  pieces_last h = in_last (e - a) s a a q p (let f = piece_from in omega arith)

  pub all_more : q < e → all_good s (pieces s a e) ≡ (is_good (item_of s a q) && all_good s (pieces s (q + 1) e))
  unfolding all_good parsed
  all_more h = rw (pieces_more h)

  pub all_last : e ≤ q → all_good s (pieces s a e) ≡ is_good (item_of s a q)
  unfolding all_good parsed
  all_last h = rw (pieces_last h) (and-true (is_good (item_of s a q)))

  pub items_more : q < e → items_in s (pieces s a e) ≡ kept (item_of s a q) (items_in s (pieces s (q + 1) e))
  unfolding items_in parsed
  items_more h = rw (pieces_more h)

  pub items_last : e ≤ q → items_in s (pieces s a e) ≡ kept (item_of s a q) []
  unfolding items_in parsed
  items_last h = rw (pieces_last h)

  -- where all pieces are good, the first is, and so are those after it
  pub first_good : all_good s (pieces s a e) ≡ true → is_good (item_of s a q) ≡ true
  first_good g = go (ltb q e) refl
    where
      go : (t : Bool) → ltb q e ≡ t → is_good (item_of s a q) ≡ true
      go true d = and_left _ _ (sym (all_more (ltb-true q e d)) ∙ g)
      go false d = sym (all_last (ltb-false q e d)) ∙ g

  pub rest_good : all_good s (pieces s a e) ≡ true → q < e → all_good s (pieces s (q + 1) e) ≡ true
  rest_good g h = and_right (is_good (item_of s a q)) _ (sym (all_more h) ∙ g)

-- the items of the bracket at `p` begin right after it or one byte on
module _ (s : List ℕ) (p : ℕ) where
  starts_after : p < items_start s p
  unfolding items_start
  starts_after = go (plus_at s p)
    where
      go : (t : Bool) → p < pick t (p + 2) (p + 1)
      go true = omega arith
      go false = omega arith

  pub starts_by : items_start s p ≤ p + 2
  unfolding items_start
  starts_by = go (plus_at s p)
    where
      go : (t : Bool) → pick t (p + 2) (p + 1) ≤ p + 2
      go true = omega arith
      go false = omega arith

  pub starts_past : 0 < items_start s p
  starts_past = omega (arith, starts_after)

-- where all pieces are good there are as many items as pieces
pub items_count : (s : List ℕ) (qs : List Stretch) → all_good s qs ≡ true → length (items_in s qs) ≡ length qs
unfolding items_in all_good
items_count s [] h = refl
items_count s (q ∷ qs) h = go (parsed s q) h (λ g. items_count s qs g)
  where
    go : (r : Option Item) → is_good r && all_good s qs ≡ true → (all_good s qs ≡ true → length (items_in s qs) ≡ length qs) → length (kept r (items_in s qs)) ≡ suc (length qs)
    go (Some it) h rest = ap suc (rest h)
    go None h rest = absurd (true≢false (sym h))
