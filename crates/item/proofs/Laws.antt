-- One item: which `@` wins, the trimmed stretch of an item,
-- and the item's parts.
use Prim.Native.Nat.{ℕ, ◌+◌, ◌-◌, ◌≤◌, ◌<◌}
use native.Mathlib.Omega.{arith}
use mathlib.Core.Path.{◌≡◌, refl, sym, ◌∙◌, ap}
use mathlib.Core.List.{List}
use mathlib.Core.Logic.{⊎_elim}
use mathlib.Core.Bool.{Bool, true, false, ◌&&◌, or-false, true≢false}
use lib.ListN.{length}
use lib.Dec.{eqb, ltb}
use borrow.Author.Tests.{ne_eqb, lt-ltb, le-ltb, ltb-true, ltb-false}
use Rattle.std.specs.Prelude.{Some, None}
use Rattle.base.specs.Pick.{pick}
use Rattle.base.specs.Lists.{byte_at}
use Rattle.base.proofs.Bools.{and_left, split}
use Rattle.base.specs.First.{first, first_of}
use Rattle.base.proofs.Searches.{first_from, first_by, first_fails, first_pass, first_out}
use Rattle.text.specs.Trim.{trim_start, trim_end}
use Rattle.text.proofs.Trims.{end_by}
use Rattle.key.specs.Keys.{is_mark, run_end, key_end}
use Rattle.key.proofs.Laws.{key_ends}
use Rattle.item.specs.declared.Item.{Item}
use Rattle.item.specs.Items.{at_sign, key_serves, wins, winner, suppresses, item_at, item_in, item_of, is_good}
use Rattle.item.specs.Facts.{MarkServesNot}

-- the `@` that wins ----------------------------------------------------------------------------------------------------------------

module _ (s : List ℕ) (e k m : ℕ) where
  pub serves_none : m ≤ k → false ≡ key_serves s e k m
  unfolding key_serves
  serves_none h = rw (le-ltb _ _ h)

  pub serves_comma : k < m → m < e → eqb (byte_at s m) 44 ≡ key_serves s e k m
  unfolding key_serves
  serves_comma h g = let n : m ≡ e → ⊥ = λ q. omega arith in rw (lt-ltb _ _ h, ne_eqb _ _ n, lt-ltb _ _ g)

  pub serves_end : k < m → e ≤ m → eqb m e ≡ key_serves s e k m
  unfolding key_serves
  serves_end h g = rw (lt-ltb _ _ h, le-ltb _ _ g) (sym (or-false (eqb m e)))

-- a mark is no comma, so a key before one serves no item
comma_no_mark : (b : ℕ) → is_mark b ≡ true → b ≡ 44 → ⊥
unfolding is_mark
comma_no_mark b h e = true≢false (sym h ∙ ap is_mark e)

pub mark_serves_not : MarkServesNot
mark_serves_not s i x h g =
    ⊎_elim
    (λ m. let l = ltb-true i (key_end s i) m in sym (serves_comma s x i (key_end s i) l (omega arith)) ∙ ne_eqb _ _ (comma_no_mark _ (mark_after s i l h)))
    (λ m. sym (serves_none s x i (key_end s i) (ltb-false i (key_end s i) m)))
    (split (ltb i (key_end s i)))
  where
    mark_after : (s : List ℕ) (i : ℕ) → i < key_end s i → key_end s i < run_end s (i + 1) → is_mark (byte_at s (key_end s i)) ≡ true
    mark_after s i l k = (key_ends s i l).after (key_end s i) (omega arith) k

-- no place without an `@` wins, so none before the next `@` does
wins_not : (s : List ℕ) (e k : ℕ) → eqb (byte_at s k) 64 ≡ false → wins s e k ≡ false
unfolding wins at_sign
wins_not s e k h = rw h refl

pub winner_at : (s : List ℕ) (e i : ℕ) {j : ℕ} → j ≡ first_of 64 s i e → winner s i e ≡ winner s j e
unfolding winner
winner_at s e i {j} p = rw p (go (ltb e i) refl)
  where
    f : ℕ → Bool
    f k = eqb (byte_at s k) 64

    w : ℕ
    w = first f (e - i) i

    go : (t : Bool) → ltb e i ≡ t → first (wins s e) (e - i) i ≡ first (wins s e) (e - w) w
    go true q = let h = ltb-true e i q in ap (λ x. first (wins s e) (e - x) x) (first_out f i e {w = w} refl (omega arith))
    go false q =
        let h = ltb-false e i q in
        first_pass (wins s e) i w e (first_from f (e - i) i) (omega (arith, first_by f (e - i) i)) (λ k l g. wins_not s e k (first_fails f (e - i) i k l g))

winner_out : (s : List ℕ) (e i : ℕ) → e ≤ i → i ≡ winner s i e
unfolding winner
winner_out s e i h = first_out (wins s e) i e refl h

-- the item -------------------------------------------------------------------------------------------------------------------------

-- in the trimmed stretch from `a` to `e`
pub in_good : (s : List ℕ) (a e : ℕ) → is_good (item_in s a e) ≡ ltb (winner s a e) e
unfolding item_in
in_good s a e = go (ltb (winner s a e) e) (item_at s a e (winner s a e) (key_end s (winner s a e + 1)))
  where
    go : (t : Bool) (it : Item) → is_good (pick t (Some it) None) ≡ t
    go true it = refl
    go false it = refl

in_empty : (s : List ℕ) (a e : ℕ) → e ≤ a → item_in s a e ≡ None
unfolding item_in
in_empty s a e h = rw (le-ltb (winner s a e) e (omega (arith, winner_out s e a h)))

-- the stretch from `start` to `end`
module _ (s : List ℕ) (start end : ℕ) where
  abbrev a : ℕ
  a = trim_start s start end

  abbrev e : ℕ
  e = trim_end s a end

  -- what is trimmed off the end leaves the stretch in the text
  pub trimmed_fits : a < e → end ≤ length s → e ≤ length s
  trimmed_fits h g = omega (arith, end_by s a end)

  -- nothing but white space
  pub item_empty : e ≤ a → item_of s start end ≡ None
  unfolding item_of
  item_empty h = in_empty s a e h

  pub item_bad : e ≤ winner s a e → item_of s start end ≡ None
  unfolding item_of item_in
  item_bad h = rw (le-ltb (winner s a e) e h)

  pub item_good : winner s a e < e → item_of s start end ≡ Some (item_at s a e (winner s a e) (key_end s (winner s a e + 1)))
  unfolding item_of item_in
  item_good h = rw (lt-ltb (winner s a e) e h)

pub ruleset item_laws = (trimmed_fits, item_empty, item_bad, item_good)

-- its parts ------------------------------------------------------------------------------------------------------------------------

-- there is a `-` before the `@`
pub suppressed_past : (s : List ℕ) (a i : ℕ) → suppresses s a i ≡ true → 0 < i
unfolding suppresses
suppressed_past s a i t = let h = ltb-true a i (and_left (ltb a i) _ (and_left (ltb a i && eqb (byte_at s (i - 1)) 45) _ t)) in omega arith
