-- The group at a bracket by cases:
-- the one file that opens `judge`.
use Prim.Native.Nat.{ℕ}
use mathlib.Core.Path.{◌≡◌, refl}
use mathlib.Core.List.{List}
use mathlib.Core.Bool.{Bool, true, false, ◌&&◌, not, and-false}
use lib.ListN.{length}
use Rattle.std.specs.Prelude.{Option, Some, None, Result, Ok, Err}
use Rattle.item.specs.declared.BadItem.{BadItem}
use Rattle.item.specs.Judge.{bad_item_at}
use Rattle.base.specs.Pick.{pick}
use Rattle.item.specs.Pieces.{items_of}
use Rattle.item.specs.Judge.{judged_of}
use Rattle.item.specs.Group.{good_items, group_of}
use Rattle.item.proofs.Judge.{JudgedBy, all_good_lem, one_bad, judged_by}
use Rattle.resolve.specs.declared.Group.{Group as Matched}
use Rattle.resolve.specs.Groups.{GroupAnswer, Found, NoGroup, barred, group_accepted, judge}
use Rattle.resolve.specs.Looks.{matched}

-- what holds of a group at `p` with its close at `c`
pub record Cited (s : List ℕ) (p c : ℕ) : Type 0 where
  pub clear : barred s c ≡ false
  pub good : good_items s p c ≡ true
  pub accepted : group_accepted s p c ≡ true
  pub judged : judged_of s p c ≡ Ok (length (items_of s p c))

-- THE LAW. The bracket at `p` with this close gives a group of which these facts hold, or no group for one of three reasons: it has no
-- close, a byte after the close bars it, or its item number `n` is the first bad one.
pub data Judges (s : List ℕ) (p : ℕ) : Option ℕ → GroupAnswer → Type 0 where
  cites : (c : ℕ) → Cited s p c → Judges s p (Some c) (Found (group_of s p c))
  no_close : Judges s p None NoGroup
  follows : (c : ℕ) → barred s c ≡ true → Judges s p (Some c) NoGroup
  bad_item : (c n : ℕ) → barred s c ≡ false → good_items s p c ≡ false → judged_of s p c ≡ Err (bad_item_at n) → Judges s p (Some c) NoGroup

pub judges : (s : List ℕ) (p : ℕ) (d : Option ℕ) → Judges s p d (judge s p d)
unfolding judge group_accepted
judges s p None = no_close
judges s p (Some c) = go (barred s c) refl (judged_of s p c) refl (judged_by s p c)
  where
    go : (b : Bool) → barred s c ≡ b → (j : Result ℕ BadItem) → judged_of s p c ≡ j → JudgedBy s p c j
        → Judges s p (Some c) (pick (not b && good_items s p c) (Found (group_of s p c)) NoGroup)
    go true q j r by = follows c q
    go false q j r (all_good_lem g) = rw g (cites c (record { clear = q; good = g; accepted = rw (q, g); judged = r }))
    go false q j r (one_bad n g e) = rw g (bad_item c n q g r)

-- what holds of each group, and where there is none, holds of what the bracket gives
pub judge_either : (s : List ℕ) (p : ℕ) (P : GroupAnswer → Type 0) (d : Option ℕ)
    → ((c : ℕ) → d ≡ Some c → Cited s p c → P (Found (group_of s p c))) → P NoGroup → P (judge s p d)
judge_either s p P d found none = go (judges s p d) found
  where
    go : {d : Option ℕ} {g : GroupAnswer} → Judges s p d g → ((c : ℕ) → d ≡ Some c → Cited s p c → P (Found (group_of s p c))) → P g
    go (cites c k) f = f c refl k
    go no_close f = none
    go (follows c b) f = none
    go (bad_item c n b g j) f = none

-- the law read from the match: what is known of the group that it gives, or that it gives none
module _ (s : List ℕ) (p : ℕ) (d : Option ℕ) where
  pub matched_is : (g : Matched) → matched (judge s p d) ≡ Some g
      → (d ≡ Some g.close) × Cited s p g.close × (judge s p d ≡ Found (group_of s p g.close)) × (g.count ≡ length (items_of s p g.close))
  unfolding matched group_of
  matched_is g = go (judges s p d)
    where
      go : {d : Option ℕ} {j : GroupAnswer} → Judges s p d j → matched j ≡ Some g
          → (d ≡ Some g.close) × Cited s p g.close × (j ≡ Found (group_of s p g.close)) × (g.count ≡ length (items_of s p g.close))
      go (cites k f) e =
          let h : ◌≡◌ {A = Matched} (record { close = k; count = length (items_of s p k) }) g = cc in
          rw (← h) (refl, f, refl, refl)
      go no_close e = let y : None ≡ Some g = e in absurd (cc)
      go (follows k b) e = let y : None ≡ Some g = e in absurd (cc)
      go (bad_item k i b g' j) e = let y : None ≡ Some g = e in absurd (cc)

  pub unmatched_is : matched (judge s p d) ≡ None → judge s p d ≡ NoGroup
  unfolding matched
  unmatched_is = go (judge s p d)
    where
      go : (j : GroupAnswer) → matched j ≡ None → j ≡ NoGroup
      go (Found g) h = absurd (cc)
      go NoGroup h = refl

-- the group, computed
module _ (s : List ℕ) (p : ℕ) where
  pub judge_nothing : judge s p None ≡ NoGroup
  unfolding judge
  judge_nothing = refl

  module _ (c : ℕ) where
    pub judge_barred : barred s c ≡ true → judge s p (Some c) ≡ NoGroup
    unfolding judge group_accepted
    judge_barred b = rw b

    pub judge_bad : good_items s p c ≡ false → judge s p (Some c) ≡ NoGroup
    unfolding judge group_accepted
    judge_bad b = rw (b, and-false (not (barred s c)))

    pub judge_good : barred s c ≡ false → good_items s p c ≡ true → judge s p (Some c) ≡ Found (group_of s p c)
    unfolding judge group_accepted
    judge_good b t = rw (b, t)

    -- the items, by what they were judged to be
    pub judged_good : {n : ℕ} → judged_of s p c ≡ Ok n → (good_items s p c ≡ true) × (n ≡ length (items_of s p c))
    judged_good {n} e = go (judged_by s p c) e
      where
        go : {j : Result ℕ BadItem} → JudgedBy s p c j → j ≡ Ok n → (good_items s p c ≡ true) × (n ≡ length (items_of s p c))
        go (all_good_lem g) e = (g, cc)
        go (one_bad k g q) e = absurd (cc)

    pub judged_bad : {b : BadItem} → judged_of s p c ≡ Err b → good_items s p c ≡ false
    judged_bad {b} q = go (judged_by s p c) q
      where
        go : {j : Result ℕ BadItem} → JudgedBy s p c j → j ≡ Err b → good_items s p c ≡ false
        go (all_good_lem g) e = absurd (cc)
        go (one_bad k g q) e = g
