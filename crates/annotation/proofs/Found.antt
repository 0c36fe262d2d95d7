-- THEOREM `SweptFits`: the groups that a sweep finds close after their brackets
-- and in the text, and have 3 bytes of text for each item.
use Prim.Native.Nat.{ℕ, zero, suc, ◌<◌}
use native.Mathlib.Omega.{arith}
use mathlib.Core.List.{List, [], ◌∷◌, ◌++◌}
use mathlib.Core.Bool.{Bool, true, false}
use lib.ListN.{length}
use lib.Dec.{ltb}
use Rattle.std.specs.Prelude.{Option}
use Rattle.base.specs.Pick.{pick}
use Rattle.base.specs.Sorted.{Each}
use Rattle.index.specs.Entries.{opens_at}
use Rattle.resolve.specs.Groups.{GroupAnswer, NoGroup, judge}
use Rattle.item.specs.Group.{Group, group_of}
use Rattle.resolve.specs.Resolve.{close_as_run, group_as_run}
use Rattle.resolve.specs.Looks.{Inside}
use Rattle.resolve.proofs.Judges.{judge_either}
use Rattle.resolve.proofs.Runs.{run_inside}
use Rattle.sweep.specs.Sweep.{Lent, Swept, swept, found_groups, next_at, lent_after, found_run, builds_at, sweep_run_in, sweep_run, found_with}
use Rattle.sweep.proofs.Sizes.{size_enough_run}
use Rattle.annotation.specs.Steps.{SweptFits}

abbrev Within : List ℕ → Group → Type 0
Within text g = (g.at < g.close) × (g.close < length text)

pub each_append : {A : Type 0} (P : A → Type 0) (xs ys : List A) → Each P xs → Each P ys → Each P (xs ++ ys)
each_append P [] ys h k = k
each_append P (x ∷ xs) ys h k = (h.0, each_append P xs ys h.1 k)

judged_within : (text : List ℕ) (p : ℕ) (c : Option ℕ) → Inside text p c → Each (Within text) (found_groups (judge text p c))
unfolding group_of
judged_within text p d k =
    judge_either text p (λ (g : GroupAnswer). Each (Within text) (found_groups g)) d (λ c e f. let i = rw e at k in ((i.0, i.1), tt)) tt

found_within : (text : List ℕ) (p : ℕ) (l : Lent) → Each (Within text) (found_groups (found_run text p l))
unfolding found_with group_as_run
found_within text p l = go (opens_at text p)
  where
    go : (t : Bool) → Each (Within text) (found_groups (pick t (judge text p (close_as_run text p l.note l.index)) NoGroup))
    go true = judged_within text p (close_as_run text p l.note l.index) (run_inside text p l.note l.index)
    go false = tt

sweep_within : (n : ℕ) (text : List ℕ) (at : ℕ) (so_far : List Group) (l : Lent) → Each (Within text) so_far
    → Each (Within text) (sweep_run_in n text at so_far l).groups
unfolding sweep_run_in
sweep_within zero text at so_far l h = h
sweep_within (suc n) text at so_far l h =
    go (ltb at (length text))
    (sweep_within n text (next_at at (found_run text at l)) (so_far ++ found_groups (found_run text at l)) (lent_after (builds_at text at l) text l)
    (each_append (Within text) so_far (found_groups (found_run text at l)) h (found_within text at l)))
  where
    on : Swept
    on = sweep_run_in n text (next_at at (found_run text at l)) (so_far ++ found_groups (found_run text at l)) (lent_after (builds_at text at l) text l)

    go : (t : Bool) → Each (Within text) on.groups → Each (Within text) (pick t on (swept so_far l)).groups
    go true k = k
    go false k = h

pub swept_fits : SweptFits
unfolding sweep_run
swept_fits text l h = record {
  short = h;
  closes = sweep_within (length text) text 0 [] l tt;
  room = omega (arith, size_enough_run text l);
}
