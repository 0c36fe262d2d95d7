-- THEOREM `SweepInTwo`: the sweep up to a bracket that wants a build, and on from there,
-- is the sweep as run.
use Prim.Native.Nat.{ℕ, zero, suc, ◌-◌, ◌≤◌, ◌<◌}
use native.Mathlib.Omega.{arith}
use mathlib.Core.Path.{◌≡◌, refl, sym, ◌∙◌, ap}
use mathlib.Core.List.{List, [], ◌++◌, append-nil, append_assoc}
use mathlib.Core.Bool.{Bool, true, false, ◌&&◌, not, true≢false}
use lib.ListN.{length}
use lib.Dec.{eqb, ltb}
use borrow.Author.Tests.{ltb-true, ltb-false, le-ltb}
use Rattle.std.specs.Prelude.{Option}
use Rattle.base.specs.Pick.{pick}
use Rattle.index.specs.Entries.{opens_at}
use Rattle.index.specs.Built.{built_index}
use Rattle.resolve.specs.declared.Look.{Look}
use Rattle.resolve.specs.declared.Look.TheVariants.{Known, Build}
use Rattle.resolve.specs.Groups.{GroupAnswer, NoGroup, judge}
use Rattle.item.specs.Group.{Group, group_of}
use Rattle.resolve.specs.Resolve.{stored_close, short_look, shortened, look_of, is_build, close_after, close_as_run, group_as_run, wants_build, note_after, index_after, records_after}
use Rattle.sweep.specs.Sweep.{Lent, swept, found_groups, next_at, lent_after, found_run, builds_at, sweep_run_in, sweep_run, found_with, wants_at}
use Rattle.sweep.specs.Stops.{Stop, stop, after, stop_in, stop_from}
use Rattle.sweep.specs.Facts.{gone_on, SweepInTwo}
use Rattle.resolve.specs.Looks.{Inside}
use Rattle.resolve.proofs.Judges.{judge_either}
use Rattle.resolve.proofs.Runs.{run_inside}

-- a sweep goes on by a byte or more
next_judged : (s : List ℕ) (p : ℕ) (c : Option ℕ) → Inside s p c → p < next_at p (judge s p c)
unfolding group_of
next_judged s p d h = judge_either s p (λ (g : GroupAnswer). p < next_at p g) d (λ c e k. let i = (rw e at h).0 in omega arith) (omega arith)

module _ (text : List ℕ) where
  pub next_more : (note : ℕ) (index : List ℕ) (at : ℕ) → at < next_at at (found_with text note index at)
  unfolding found_with group_as_run
  next_more note index at = go (opens_at text at)
    where
      go : (t : Bool) → at < next_at at (pick t (judge text at (close_as_run text at note index)) NoGroup)
      go true = next_judged text at (close_as_run text at note index) (run_inside text at note index)
      go false = omega arith

  -- the sweep is at its end
  pub stop_end : (n note : ℕ) (index : List ℕ) (at : ℕ) → length text ≤ at → stop_in n text note index at ≡ stop [] at false
  unfolding stop_in
  stop_end zero note index at h = refl
  stop_end (suc n) note index at h = rw (le-ltb at (length text) h)

  -- as many turns as bytes are left are enough
  pub stop_enough : (n m note : ℕ) (index : List ℕ) (at : ℕ) → length text - at ≤ n → length text - at ≤ m
      → stop_in n text note index at ≡ stop_in m text note index at
  unfolding stop_in
  stop_enough zero m note index at h k = sym (stop_end m note index at (omega arith))
  stop_enough (suc n) zero note index at h k = stop_end (suc n) note index at (omega arith)
  stop_enough (suc n) (suc m) note index at h k =
      go (ltb at (length text)) refl (λ a b. stop_enough n m note index (next_at at (found_with text note index at)) a b)
    where
      f : GroupAnswer
      f = found_with text note index at

      go : (t : Bool) → ltb at (length text) ≡ t
          → (length text - next_at at f ≤ n → length text - next_at at f ≤ m
          → stop_in n text note index (next_at at f) ≡ stop_in m text note index (next_at at f))
          → pick t (pick (wants_at text note at) (stop [] at true) (after (found_groups f) (stop_in n text note index (next_at at f)))) (stop [] at false)
          ≡ pick t (pick (wants_at text note at) (stop [] at true) (after (found_groups f) (stop_in m text note index (next_at at f)))) (stop [] at false)
      go true q ih =
          let b = ltb-true at (length text) q in
          let g = next_more note index at in
          ap (λ (s : Stop). pick (wants_at text note at) (stop [] at true) (after (found_groups f) s)) (ih (omega arith) (omega arith))
      go false q ih = refl

  -- where the index is built no bracket wants a build
  built_wants_none : (at : ℕ) → wants_at text 1 at ≡ false
  unfolding wants_at wants_build
  built_wants_none at = go (opens_at text at)
    where
      go : (t : Bool) → (t && false) ≡ false
      go true = refl
      go false = refl

  built_builds_none : (at : ℕ) (l : Lent) → l.note ≡ 1 → builds_at text at l ≡ false
  unfolding wants_at
  built_builds_none at l e = rw e (built_wants_none at)

  built_run : (n at : ℕ) (so_far : List Group) (l : Lent) → l.note ≡ 1
      → sweep_run_in n text at so_far l ≡ swept (so_far ++ (stop_in n text l.note l.index at).groups) l
  unfolding sweep_run_in stop_in found_with lent_after note_after index_after records_after
  built_run zero at so_far l e = ap (λ (gs : List Group). swept gs l) (sym (append-nil so_far))
  built_run (suc n) at so_far l e =
      go (ltb at (length text)) (builds_at text at l) (built_builds_none at l e)
      (built_run n (next_at at (found_run text at l)) (so_far ++ found_groups (found_run text at l)) l e)
    where
      f : GroupAnswer
      f = found_run text at l

      wants : wants_at text l.note at ≡ false
      wants = rw e (built_wants_none at)

      go : (t b : Bool) → b ≡ false
          → sweep_run_in n text (next_at at f) (so_far ++ found_groups f) l
          ≡ swept ((so_far ++ found_groups f) ++ (stop_in n text l.note l.index (next_at at f)).groups) l
          → pick t (sweep_run_in n text (next_at at f) (so_far ++ found_groups f) (lent_after b text l)) (swept so_far l)
          ≡ swept
          (so_far
          ++ (pick t
          (pick (wants_at text l.note at) (stop [] at true) (after (found_groups f) (stop_in n text l.note l.index (next_at at f))))
          (stop [] at false)).groups)
          l
      go true true z ih = absurd (let w : ◌≡◌ {A = ℕ} 0 1 = cc in omega arith)
      go true false z ih =
          rw wants
          (ih
          ∙ ap (λ (gs : List Group). swept gs l) (append_assoc so_far (found_groups f) (stop_in n text l.note l.index (next_at at f)).groups))
      go false b z ih = ap (λ (gs : List Group). swept gs l) (sym (append-nil so_far))

  -- a bracket that wants a build gives, as run, what it gives once the index is built
  build_same : (at : ℕ) (l : Lent) → builds_at text at l ≡ true → found_run text at l ≡ found_with text 1 (built_index text l.index) at
  unfolding wants_at wants_build found_with group_as_run close_as_run look_of close_after
  build_same at l h = go (opens_at text at) (eqb l.note 1) (shortened text at (short_look text at)) h
    where
      built : List ℕ
      built = built_index text l.index

      go : (o b : Bool) (k : Look) → o && (not b && is_build k) ≡ true
          → pick o (judge text at (close_after text at built (pick b (Known (stored_close text at l.index)) k))) NoGroup
          ≡ pick o (judge text at (close_after text at (built_index text built) (Known (stored_close text at built)))) NoGroup
      go false b k e = refl
      go true true k e = absurd (true≢false (sym e))
      go true false (Known d) e = absurd (true≢false (sym e))
      go true false Build e = refl

  -- at the end nothing more is found
  at_end : (so_far : List Group) (at : ℕ) (l : Lent) → length text ≤ at → swept so_far l ≡ gone_on text so_far l (stop [] at false)
  unfolding gone_on stop_from lent_after note_after index_after records_after
  at_end so_far at l h =
      ap (λ (gs : List Group). swept gs l) (sym (append-nil so_far) ∙ ap (λ (s : Stop). so_far ++ s.groups) (sym (stop_end (length text) l.note l.index at h)))

  -- after the build
  on_built : (n at : ℕ) (so_far : List Group) (l : Lent) → length text - at ≤ suc n → ltb at (length text) ≡ true → builds_at text at l ≡ true
      → sweep_run_in n text (next_at at (found_run text at l)) (so_far ++ found_groups (found_run text at l)) (lent_after true text l)
      ≡ gone_on text so_far l (stop [] at true)
  unfolding gone_on stop_from stop_in lent_after note_after index_after records_after
  on_built n at so_far l h q r =
      built_run n (next_at at f) (so_far ++ found_groups f) later refl
      ∙ ap (λ (gs : List Group). swept gs later)
      (append_assoc so_far (found_groups f) (stop_in n text 1 built (next_at at f)).groups
      ∙ ap (λ (gs : List Group). so_far ++ gs)
      (ap (λ (g : GroupAnswer). found_groups g ++ (stop_in n text 1 built (next_at at g)).groups) (build_same at l r)
      ∙ ap (λ (s : Stop). s.groups) (sym (turn ∙ refl) ∙ stop_enough (suc n) (length text) 1 built at h (omega arith))))
    where
      f : GroupAnswer
      f = found_run text at l

      built : List ℕ
      built = built_index text l.index

      later : Lent
      later = lent_after true text l

      turn : stop_in (suc n) text 1 built at ≡ after (found_groups (found_with text 1 built at)) (stop_in n text 1 built (next_at at (found_with text 1 built at)))
      turn = rw (q, built_wants_none at)

  -- groups before a stop
  joined : (so_far gs : List Group) (l : Lent) (s : Stop) → gone_on text (so_far ++ gs) l s ≡ gone_on text so_far l (after gs s)
  unfolding gone_on
  joined so_far gs l s =
      ap (λ (hs : List Group). swept hs (lent_after s.wants text l))
      (append_assoc so_far gs _ ∙ ap (λ (hs : List Group). so_far ++ hs) (sym (append_assoc gs s.groups _)))

  -- the sweep from `at` on
  run_in_two : (n at : ℕ) (so_far : List Group) (l : Lent) → length text - at ≤ n
      → sweep_run_in n text at so_far l ≡ gone_on text so_far l (stop_in n text l.note l.index at)
  unfolding sweep_run_in stop_in gone_on found_with wants_at lent_after note_after index_after records_after
  run_in_two zero at so_far l h = at_end so_far at l (omega arith)
  run_in_two (suc n) at so_far l h =
      go (ltb at (length text)) refl (wants_at text l.note at) refl
      (λ k. run_in_two n (next_at at (found_run text at l)) (so_far ++ found_groups (found_run text at l)) l k)
    where
      f : GroupAnswer
      f = found_run text at l

      go : (t : Bool) → ltb at (length text) ≡ t → (w : Bool) → wants_at text l.note at ≡ w
          → (length text - next_at at f ≤ n
          → sweep_run_in n text (next_at at f) (so_far ++ found_groups f) l
          ≡ gone_on text (so_far ++ found_groups f) l (stop_in n text l.note l.index (next_at at f)))
          → pick t (sweep_run_in n text (next_at at f) (so_far ++ found_groups f) (lent_after w text l)) (swept so_far l)
          ≡ gone_on text so_far l
          (pick t (pick w (stop [] at true) (after (found_groups f) (stop_in n text l.note l.index (next_at at f)))) (stop [] at false))
      go false q w r ih = at_end so_far at l (ltb-false at (length text) q)
      go true q true r ih = on_built n at so_far l h q r
      go true q false r ih =
          let b = ltb-true at (length text) q in
          let m = next_more l.note l.index at in
          ih (omega arith) ∙ joined so_far (found_groups f) l (stop_in n text l.note l.index (next_at at f))

pub sweep_in_two : SweepInTwo
unfolding sweep_run stop_from
sweep_in_two text l = run_in_two text (length text) 0 [] l (omega arith)
