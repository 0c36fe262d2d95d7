-- The close of a bracket and the group at it, in the form of the code's goals:
-- `r` is what a call gave.
use Prim.Native.Nat.{ℕ, ◌-◌, ◌<◌}
use mathlib.Core.Path.{◌≡◌, refl, sym, ◌∙◌}
use mathlib.Core.List.{List}
use mathlib.Core.Bool.{Bool, true, false, ◌&&◌}
use lib.ListN.{length, get_or}
use lib.Dec.{leb, ltb}
use borrow.Author.Tests.{ltb-true, eqb-true}
use Rattle.std.specs.Prelude.{Option, Some, None, Result, Ok, Err}
use Rattle.item.specs.declared.BadItem.{BadItem}
use Rattle.base.specs.Pick.{pick}
use Rattle.base.specs.Lists.{is_at}
use Rattle.base.proofs.Bools.{and_left, and_right}
use Rattle.close.specs.Scan.{close_within}
use Rattle.close.proofs.Laws.{close_found, close_there}
use Rattle.item.specs.Judge.{judged_of}
use Rattle.item.specs.Group.{group_of}
use Rattle.resolve.specs.declared.Look.{Look}
use Rattle.resolve.specs.declared.Look.TheVariants.{Known, Build}
use Rattle.resolve.specs.Groups.{barred, judge}
use Rattle.resolve.specs.Resolve.{is_built, as_close, stored_close, short_look, shortened, look_of, close_after}
use Rattle.resolve.specs.Looks.{matched, Inside, LookInside}
use Rattle.resolve.proofs.Judges.{judge_nothing, judge_barred, judge_good, judge_bad, judged_good, judged_bad}

-- the group at a bracket -----------------------------------------------------------------------------------------------------------

module _ (s : List ℕ) (p : ℕ) {d : Option ℕ} where
  pub match_none : d ≡ None → None ≡ matched (judge s p d)
  unfolding matched
  match_none e = rw (e, judge_nothing s p)

  module _ {c : ℕ} (e : d ≡ Some c) where
    pub at_after : Inside s p d → p < c
    at_after i = (rw e at i).0

    pub at_inside : Inside s p d → c < length s
    at_inside i = (rw e at i).1

    module _ {b : Bool} (q : b ≡ barred s c) where
      pub match_barred : b ≡ true → None ≡ matched (judge s p d)
      unfolding matched
      match_barred t = rw (e, judge_barred s p c (sym q ∙ t))

      module _ {j : Result ℕ BadItem} (f : b ≡ false) (g : j ≡ judged_of s p c) where
        pub match_good : {n : ℕ} → j ≡ Ok n → Some (record { close = c; count = n }) ≡ matched (judge s p d)
        unfolding matched group_of
        match_good h = let k = judged_good s p c (sym g ∙ h) in rw (e, judge_good s p c (sym q ∙ f) k.0, k.1)

        pub match_bad : {bad : BadItem} → j ≡ Err bad → None ≡ matched (judge s p d)
        unfolding matched
        match_bad h = rw (e, judge_bad s p c (judged_bad s p c (sym g ∙ h)))

pub ruleset match_laws = (match_none, at_after, at_inside, match_barred, match_good, match_bad)

-- the closes that the code finds lie after their bracket, in the text, at a `]` ----------------------------------------------------

-- whatever an index holds
pub stored_inside : (s : List ℕ) (p : ℕ) (index : List ℕ) → Inside s p (stored_close s p index)
unfolding stored_close as_close
stored_inside s p index = go (get_or index p 0) _ refl
  where
    go : (v : ℕ) (t : Bool) → ltb p v && is_at s v 93 ≡ t → Inside s p (pick t (Some v) None)
    go v true q =
        let k = and_right (ltb p v) _ q in
        (ltb-true _ _ (and_left (ltb p v) _ q), ltb-true _ _ (and_left (ltb v (length s)) _ k), eqb-true _ _ (and_right (ltb v (length s)) _ k))
    go v false q = tt

pub within_inside : (limit : ℕ) (s : List ℕ) (p : ℕ) → Inside s p (close_within limit s p)
within_inside limit s p = go (close_within limit s p) refl
  where
    go : (d : Option ℕ) → close_within limit s p ≡ d → Inside s p d
    go (Some c) e = close_there s p c (close_found s p c limit e)
    go None e = tt

-- and the one that a look gives
pub look_inside : (s : List ℕ) (p note : ℕ) (index : List ℕ) → LookInside s p (look_of s p note index)
unfolding look_of shortened short_look
look_inside s p note index = go (is_built note)
  where
    end : (t : Bool) → LookInside s p (pick t (Known None) Build)
    end true = tt
    end false = tt

    by_short : (d : Option ℕ) → Inside s p d → LookInside s p (shortened s p d)
    by_short (Some c) i = i
    by_short None i = end (leb (length s - p) 64)

    short : Inside s p (short_look s p)
    short = within_inside 64 s p

    go : (t : Bool) → LookInside s p (pick t (Known (stored_close s p index)) (shortened s p (short_look s p)))
    go true = stored_inside s p index
    go false = by_short (short_look s p) short

-- so is the close after it, whatever the index holds then
pub after_inside : (s : List ℕ) (p : ℕ) (index : List ℕ) (l : Look) → LookInside s p l → Inside s p (close_after s p index l)
unfolding close_after
after_inside s p index (Known d) i = i
after_inside s p index Build i = stored_inside s p index
