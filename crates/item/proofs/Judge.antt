-- The judgement on the items between a bracket and its close:
-- what it says of them, and one piece at a time.
use Prim.Native.Nat.{ℕ, suc, ◌+◌}
use native.Mathlib.Omega.{arith}
use mathlib.Core.Path.{◌≡◌, refl, ap}
use mathlib.Core.List.{List, [], ◌∷◌}
use mathlib.Core.Bool.{Bool, true, false}
use lib.ListN.{length}
use Rattle.std.specs.Prelude.{Result, Ok, Err}
use Rattle.item.specs.declared.BadItem.{BadItem}
use Rattle.base.specs.Pick.{pick}
use Rattle.item.specs.Items.{is_good}
use Rattle.item.specs.Pieces.{Stretch, pieces_of, parsed, all_good, items_of}
use Rattle.item.specs.Group.{good_items}
use Rattle.item.specs.Judge.{bad_item_at, first_bad, judged_in, judged_of}
use Rattle.item.proofs.Pieces.{items_count}

-- what the judgement says ----------------------------------------------------------------------------------------------------------

-- The items as a judgement and as a Boolean: where all are good it has their number, and else the first bad one.
pub data JudgedBy (s : List ℕ) (p c : ℕ) : Result ℕ BadItem → Type 0 where
  all_good_lem : good_items s p c ≡ true → JudgedBy s p c (Ok (length (items_of s p c)))
  one_bad : (n : ℕ) → good_items s p c ≡ false → n ≡ first_bad s (pieces_of s p c) → JudgedBy s p c (Err (bad_item_at n))

pub judged_by : (s : List ℕ) (p c : ℕ) → JudgedBy s p c (judged_of s p c)
unfolding judged_of judged_in good_items items_of
judged_by s p c = go (all_good s (pieces_of s p c)) refl
  where
    go : (t : Bool) → all_good s (pieces_of s p c) ≡ t
        → JudgedBy s p c (pick t (Ok (length (pieces_of s p c))) (Err (bad_item_at (first_bad s (pieces_of s p c)))))
    go true q = rw (← items_count s (pieces_of s p c) q) (all_good_lem q)
    go false q = one_bad _ q refl

-- the first bad item by its number
abbrev err : ℕ → Result ℕ BadItem
err n = Err (bad_item_at n)

-- one piece at a time --------------------------------------------------------------------------------------------------------------

-- the judgement on the pieces that follow `n` good ones, with those
unfoldable pub past : ℕ → Result ℕ BadItem → Result ℕ BadItem
past n (Ok count) = Ok (n + count)
past n (Err bad) = Err (bad_item_at (n + bad.item))

pub past_next : (n : ℕ) (j : Result ℕ BadItem) → past n (past 1 j) ≡ past (n + 1) j
unfolding past
past_next n (Ok k) = ap Ok (omega arith)
past_next n (Err bad) = ap err (omega arith)

pub past_none : (j : Result ℕ BadItem) → j ≡ past 0 j
unfolding past
past_none (Ok k) = ap Ok (omega arith)
past_none (Err bad) = ap err (omega arith)

-- a piece before others
pub in_good : (s : List ℕ) (x : Stretch) (qs : List Stretch) → is_good (parsed s x) ≡ true → judged_in s (x ∷ qs) ≡ past 1 (judged_in s qs)
unfolding judged_in all_good first_bad past
in_good s x qs g = rw g (go (all_good s qs))
  where
    go : (t : Bool) → pick t (Ok (suc (length qs))) (err (suc (first_bad s qs))) ≡ past 1 (pick t (Ok (length qs)) (err (first_bad s qs)))
    go true = ap Ok (omega arith)
    go false = ap err (omega arith)

-- no piece is left
pub past_all : (s : List ℕ) (n : ℕ) → past n (judged_in s []) ≡ Ok n
unfolding judged_in all_good past
past_all s n = ap Ok (omega arith)

pub in_bad : (s : List ℕ) (x : Stretch) (qs : List Stretch) → is_good (parsed s x) ≡ false → judged_in s (x ∷ qs) ≡ err 0
unfolding judged_in all_good first_bad
in_bad s x qs g = rw g
