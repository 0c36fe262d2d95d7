-- The sweep as run, with an index as left, finds the groups of the plain sweep,
-- and leaves such an index.
use Prim.Native.Nat.{ℕ, zero, suc, ◌≤◌}
use native.Mathlib.Omega.{arith}
use mathlib.Core.Path.{◌≡◌, refl, sym, ◌∙◌, ap}
use mathlib.Core.List.{List, [], ◌++◌, append-nil, append_assoc}
use mathlib.Core.Bool.{Bool, true, false}
use lib.ListN.{length}
use lib.Dec.{ltb}
use Rattle.base.specs.Pick.{pick}
use Rattle.index.specs.Entries.{opens_at}
use Rattle.index.proofs.Built.{length_built, take_built}
use Rattle.resolve.specs.Groups.{GroupAnswer, NoGroup, group_at}
use Rattle.item.specs.Group.{Group}
use Rattle.resolve.specs.Resolve.{group_as_run, note_after, index_after}
use Rattle.resolve.specs.Lefts.{Left}
use Rattle.resolve.proofs.AtBracket.{bracket_true}
use Rattle.sweep.specs.Sweep.{Lent, Swept, swept, found_groups, next_at, lent_after, found_at, found_run, builds_at, sweep_in, sweep_run_in, found_with}

-- what a look-up leaves is again such an index, as long as it was
left_after : (b : Bool) (text : List ℕ) (l : Lent) → Left text l.index l.note
    → Left text (lent_after b text l).index (lent_after b text l).note
unfolding lent_after note_after index_after
left_after true text l h = λ e g. take_built text l.index
left_after false text l h = h

length_after : (b : Bool) (text : List ℕ) (l : Lent) → length text ≤ length l.index → length text ≤ length (lent_after b text l).index
unfolding lent_after index_after
length_after true text l h = let a = length_built text l.index h in omega (arith, a, h)
length_after false text l h = h

module _ (text : List ℕ) where
  found_same : (at : ℕ) (l : Lent) → Left text l.index l.note → length text ≤ length l.index → found_run text at l ≡ found_at text at
  unfolding found_with found_at
  found_same at l h g = go (opens_at text at) refl
    where
      go : (b : Bool) → opens_at text at ≡ b → pick b (group_as_run text at l.note l.index) NoGroup ≡ pick b (group_at text at) NoGroup
      go true e = bracket_true text at l.note l.index h g e
      go false e = refl

  pub sweep_same : (n at : ℕ) (so_far : List Group) (l : Lent) → Left text l.index l.note → length text ≤ length l.index
      → (sweep_run_in n text at so_far l).groups ≡ so_far ++ sweep_in n text at
  unfolding sweep_run_in sweep_in
  sweep_same zero at so_far l h g = sym (append-nil so_far)
  sweep_same (suc n) at so_far l h g =
      go (ltb at (length text)) (found_run text at l) (found_same at l h g)
      (sweep_same n (next_at at (found_run text at l)) (so_far ++ found_groups (found_run text at l)) (lent_after (builds_at text at l) text l)
      (left_after (builds_at text at l) text l h) (length_after (builds_at text at l) text l g))
    where
      go : (b : Bool) (f : GroupAnswer) → f ≡ found_at text at
          → (sweep_run_in n text (next_at at f) (so_far ++ found_groups f) (lent_after (builds_at text at l) text l)).groups
          ≡ so_far ++ found_groups f ++ sweep_in n text (next_at at f)
          → (pick b (sweep_run_in n text (next_at at f) (so_far ++ found_groups f) (lent_after (builds_at text at l) text l)) (swept so_far l)).groups
          ≡ so_far ++ pick b (found_groups (found_at text at) ++ sweep_in n text (next_at at (found_at text at))) []
      go true f e ih =
          ih ∙ append_assoc so_far (found_groups f) (sweep_in n text (next_at at f))
          ∙ ap (λ (k : GroupAnswer). so_far ++ (found_groups k ++ sweep_in n text (next_at at k))) e
      go false f e ih = sym (append-nil so_far)

-- what the sweep leaves is again such an index
pub sweep_left : (n : ℕ) (text : List ℕ) (at : ℕ) (so_far : List Group) (l : Lent) → Left text l.index l.note
    → Left text (sweep_run_in n text at so_far l).lent.index (sweep_run_in n text at so_far l).lent.note
unfolding sweep_run_in
sweep_left zero text at so_far l h = h
sweep_left (suc n) text at so_far l h =
    go (ltb at (length text)) _
    (sweep_left n text (next_at at (found_run text at l)) (so_far ++ found_groups (found_run text at l)) (lent_after (builds_at text at l) text l)
    (left_after (builds_at text at l) text l h))
  where
    go : (b : Bool) (s : Swept) → Left text s.lent.index s.lent.note
        → Left text (pick b s (swept so_far l)).lent.index (pick b s (swept so_far l)).lent.note
    go true s ih = ih
    go false s ih = h

-- a turn of the sweep, and the sweep, leave the index as long as it was
after_length : (b : Bool) (text : List ℕ) (l : Lent) → length text ≤ length l.index → length (lent_after b text l).index ≡ length l.index
unfolding lent_after index_after
after_length true text l h = length_built text l.index h
after_length false text l h = refl

pub sweep_length : (n : ℕ) (text : List ℕ) (at : ℕ) (so_far : List Group) (l : Lent) → length text ≤ length l.index
    → length (sweep_run_in n text at so_far l).lent.index ≡ length l.index
unfolding sweep_run_in
sweep_length zero text at so_far l h = refl
sweep_length (suc n) text at so_far l h =
    go (ltb at (length text)) _
    (let e = after_length (builds_at text at l) text l h in
    sweep_length n text (next_at at (found_run text at l)) (so_far ++ found_groups (found_run text at l)) (lent_after (builds_at text at l) text l) (omega (arith, e)) ∙ e)
  where
    go : (b : Bool) (s : Swept) → length s.lent.index ≡ length l.index → length (pick b s (swept so_far l)).lent.index ≡ length l.index
    go true s e = e
    go false s e = refl
