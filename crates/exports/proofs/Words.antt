-- The numbers of an answer fit `answer`:
-- places and counts are no more than a text has bytes.
use Prim.Native.Nat.{ℕ, zero, suc, ◌+◌, ◌/◌, ◌≤◌, ◌<◌}
use native.Mathlib.Omega.{arith}
use mathlib.Core.Path.{◌≡◌, refl, ap}
use mathlib.Core.List.{List, [], ◌++◌}
use mathlib.Core.Bool.{Bool, true, false, not, ◌&&◌}
use lib.ListN.{length, length-append}
use lib.Dec.{eqb, leb, ltb}
use borrow.Author.Tests.{eqb-true, ltb-false, leb-true}
use Rattle.std.specs.Prelude.{Option, Some}
use Rattle.base.specs.Pick.{pick}
use Rattle.utf8.specs.Utf8.{too_long, utf8}
use Rattle.utf8.specs.Refusal.{after_text, text_refusal}
use Rattle.base.proofs.Bools.{and_right}
use Rattle.index.specs.declared.Bracket.{Bracket}
use Rattle.locator.specs.declared.Locator.TheVariants.{Nothing as NoLocator}
use Rattle.locator.specs.Locators.{locator_of}
use Rattle.locator.specs.Answers.{code_of, value_of, suffix_of}
use Rattle.locator.proofs.Laws.{code_small, value_ends, suffix_ends}
use Rattle.resolve.specs.Groups.{GroupAnswer, Found, NoGroup, judge}
use Rattle.item.specs.Group.{Group, group_of}
use Rattle.records.specs.ItemRecords.{records_length}
use Rattle.resolve.specs.Resolve.{close_as_run, group_as_run, note_after}
use Rattle.lookup.specs.Refusals.{too_few, look_up_refusal}
use Rattle.lookup.specs.LookUps.{LookedUp, look_up_refused, look_up_gives, look_up_answers, looked_up, look_up_builds, ran_with, look_up_run}
use Rattle.lookup.specs.Others.{sized, located, locator_call, size_call}
use Rattle.lookup.specs.Values.{look_up_numbers, locator_numbers, size_numbers}
use Rattle.lookup.proofs.RefusalLaws.{unrefused, look_up_refusal_low}
use Rattle.pool.specs.Layout.{well_formed}
use Rattle.sweep.specs.Sweep.{Lent, Swept, lent_of, lent_after, swept, found_groups, next_at, found_run, builds_at, sweep_run_in, sweep_run}
use Rattle.sweep.specs.Stops.{stop_from}
use Rattle.sweep.specs.Facts.{gone_on}
use Rattle.standing.specs.GroupRecords.{item_count}
use Rattle.standing.proofs.ItemSizes.{items_size}
use Rattle.sweep.proofs.Sizes.{size_enough_run}
use Rattle.resolve.specs.Looks.{Inside}
use Rattle.resolve.proofs.Judges.{judge_either}
use Rattle.resolve.proofs.Runs.{run_inside}
use Rattle.sweep.proofs.Stops.{sweep_in_two}
use Rattle.annotation.specs.Content.{Areas, tally_of, content_of}
use Rattle.annotation.specs.Call.{AnnotateRan, annotate_refused, room_for, zero_filled, annotate_gives, answer_of, annotate_ran, annotate_swept, annotate_run}
use Rattle.annotation.specs.Refusal.{annotate_refusal}
use Rattle.annotation.specs.Values.{annotation_numbers}
use Rattle.annotation.proofs.Counts.{sources_by}
use Rattle.annotation.proofs.ByRecords.{references_length}
use Rattle.annotation.proofs.RefusalLaws.{unrefused as annotate-unrefused}
use Rattle.answers.specs.Words.{Words}

-- the size and the locator call ---------------------------------------------------------------------------------------------------

module _ (s : List ℕ) where
  refusal_low : text_refusal s ≤ 2
  unfolding text_refusal after_text
  refusal_low = go (too_long s) (utf8 s)
    where
      go : (a b : Bool) → pick a 1 (pick b 0 2) ≤ 2
      go true b = omega arith
      go false true = omega arith
      go false false = omega arith

  text_short : text_refusal s ≡ 0 → length s ≤ 65535
  unfolding text_refusal after_text
  text_short = go (ltb 65535 (length s)) refl (utf8 s)
    where
      go : (a : Bool) → ltb 65535 (length s) ≡ a → (b : Bool) → pick {A = ℕ} a 1 (pick b 0 2) ≡ 0 → length s ≤ 65535
      go true q b z = absurd (omega arith)
      go false q b z = ltb-false 65535 (length s) q

  pub size_words : Words (size_numbers (size_call s))
  unfolding size_call size_numbers Words
  size_words = go (eqb (text_refusal s) 0) refl
    where
      go : (t : Bool) → eqb (text_refusal s) 0 ≡ t → Words (size_numbers (pick t (sized 0 (length s / 3)) (sized (text_refusal s) 0)))
      go true q = let h = text_short (eqb-true (text_refusal s) 0 q) in (omega arith, (omega arith, tt))
      go false q = let h = refusal_low in (omega arith, (omega arith, tt))

  pub locator_words : Words (locator_numbers (locator_call s))
  unfolding locator_call locator_numbers code_of value_of suffix_of Words
  locator_words = go (eqb (text_refusal s) 0) refl
    where
      go : (t : Bool) → eqb (text_refusal s) 0 ≡ t → Words (locator_numbers (pick t (located 0 (locator_of s 0 (length s))) (located (text_refusal s) NoLocator)))
      go true q =
          let h = text_short (eqb-true (text_refusal s) 0 q) in
          let c = code_small s 0 (length s) refl in
          let v = value_ends s 0 (length s) in
          let x = suffix_ends s 0 (length s) in
          (omega arith, (omega arith, (omega arith, (omega arith, (omega arith, (omega arith, tt))))))
      go false q = let h = refusal_low in (omega arith, (omega arith, (omega arith, (omega arith, (omega arith, (omega arith, tt))))))

-- a look-up -------------------------------------------------------------------------------------------------------------------------

record Low (a : LookedUp) : Type 0 where
  number : a.number ≤ 65535
  close : a.close ≤ 65535
  count : a.count ≤ 65535

refused_low : (n : ℕ) (items : List ℕ) → n ≤ 65535 → Low (look_up_refused n items)
unfolding look_up_refused
refused_low n items h = record { number = h; close = omega arith; count = omega arith }

module _ (s : List ℕ) (at : ℕ) (items : List ℕ) where
  judged_low : length s ≤ 65535 → (c : Option ℕ) → Inside s at c → Low (look_up_answers (judge s at c) items)
  unfolding look_up_answers look_up_gives group_of
  judged_low h d k =
      judge_either s at (λ (g : GroupAnswer). Low (look_up_answers g items)) d
      (λ c e f. full c (rw e at k) (ltb (length items) (records_length (group_of s at c))))
      (refused_low 5 items (omega arith))
    where
      full : (c : ℕ) → Inside s at (Some c) → (t : Bool) → Low (pick t (look_up_refused 10 items) (look_up_gives (group_of s at c) items))
      full c k true = refused_low 10 items (omega arith)
      full c k false =
          let z = items_size s at c k.0 in
          record { number = omega arith; close = omega (arith, k.1); count = omega (arith, k.1) }

  looked_low : (n m note : ℕ) (index : List ℕ) → Low (looked_up (look_up_refusal s at n m) (group_as_run s at note index) items)
  unfolding looked_up group_as_run
  looked_low n m note index = go (eqb (look_up_refusal s at n m) 0) refl
    where
      go : (t : Bool) → eqb (look_up_refusal s at n m) 0 ≡ t
          → Low (pick t (look_up_answers (judge s at (close_as_run s at note index)) items) (look_up_refused (look_up_refusal s at n m) items))
      go true q = judged_low (unrefused s at n m (eqb-true _ 0 q)).enough.short (close_as_run s at note index) (run_inside s at note index)
      go false q = let h = look_up_refusal_low s at n m in refused_low (look_up_refusal s at n m) items (omega arith)

note_low : (b : Bool) (note : ℕ) → note < 256 → note_after b note < 256
unfolding note_after
note_low true note h = omega arith
note_low false note h = h

pub look_up_words : (s : List ℕ) (at note : ℕ) (index : List ℕ) (records : List Bracket) (items : List ℕ) → note < 256
    → Words (look_up_numbers (look_up_run s at note index records items))
unfolding look_up_run ran_with look_up_numbers Words
look_up_words s at note index records items h =
    let a = looked_low s at items (length index) (length records) note index in
    let n = note_low (look_up_builds s at note (length index) (length records)) note h in
    (omega (arith, a.number), (omega (arith, a.close), (omega (arith, a.count), (omega arith, tt))))

-- an annotation ---------------------------------------------------------------------------------------------------------------------

-- each turn of a sweep finds one group at most
listed_few : (f : GroupAnswer) → length (found_groups f) ≤ 1
listed_few (Found g) = omega arith
listed_few NoGroup = omega arith

sweep_few : (n : ℕ) (text : List ℕ) (at : ℕ) (so_far : List Group) (l : Lent) → length (sweep_run_in n text at so_far l).groups ≤ length so_far + n
unfolding sweep_run_in
sweep_few zero text at so_far l = omega arith
sweep_few (suc n) text at so_far l =
    go (found_run text at l) (ltb at (length text))
    (sweep_few n text (next_at at (found_run text at l)) (so_far ++ found_groups (found_run text at l)) (lent_after (builds_at text at l) text l))
  where
    go : (f : GroupAnswer) (t : Bool)
        → length (sweep_run_in n text (next_at at f) (so_far ++ found_groups f) (lent_after (builds_at text at l) text l)).groups ≤ length (so_far ++ found_groups f) + n
        → length (pick t (sweep_run_in n text (next_at at f) (so_far ++ found_groups f) (lent_after (builds_at text at l) text l)) (swept so_far l)).groups
        ≤ length so_far + suc n
    go f true h =
        let k = listed_few f in
        let e : length (so_far ++ found_groups f) ≡ length so_far + length (found_groups f) = simp length-append refl in
        omega arith
    go f false h = omega arith

groups_few : (text : List ℕ) (l : Lent) → length (sweep_run text l).groups ≤ length text
unfolding sweep_run
groups_few text l = let h = sweep_few (length text) text 0 [] l in omega arith

swept_note : (text : List ℕ) (l : Lent) → l.note < 256 → (sweep_run text l).lent.note < 256
unfolding gone_on lent_after
swept_note text l h =
    rw (ap (λ (x : Swept). x.lent.note) (sweep_in_two text l)) (note_low (stop_from text l.note l.index 0).wants l.note h)

record Few (r : AnnotateRan) : Type 0 where
  number : r.answer.number ≤ 65535
  groups : r.answer.groups ≤ 65535
  items : r.answer.items ≤ 65535
  sources : r.answer.sources ≤ 65535
  labels : r.answer.label_bytes ≤ 65535
  note : r.note < 256

refused_few : (n : ℕ) (areas : Areas) (l : Lent) → n ≤ 65535 → l.note < 256 → Few (annotate_ran (annotate_refused n areas) l)
unfolding annotate_ran
refused_few n areas l h k = record { number = h; groups = omega arith; items = omega arith; sources = omega arith; labels = omega arith; note = k }

labels_few : (content areas : Areas) → room_for content areas ≡ true → length content.labels ≤ 65535
unfolding room_for
labels_few content areas q = leb-true (length content.labels) 65535
    (and_right
    (leb (length content.items) (length areas.items)
    && leb (length content.groups) (length areas.groups)
    && leb (length content.references) (length areas.references)
    && leb (length content.labels) (length areas.labels))
    (leb (length content.labels) 65535) q)

module _ (text : List ℕ) (mode : ℕ) (pool : List ℕ) (areas : Areas) where
  sources_few : (all : List Group) → length (content_of text mode all pool).references ≤ item_count all
  unfolding content_of
  sources_few all = rw (references_length text mode all pool (tally_of text mode all pool).sources) (sources_by text mode all pool)

  swept_few : (l : Lent) → length text ≤ 65535 → l.note < 256 → Few (annotate_swept text mode pool areas (sweep_run text l))
  unfolding annotate_swept answer_of annotate_ran annotate_gives
  swept_few l h k = go (content_of text mode all pool) (sources_few all) _ refl
    where
      all : List Group
      all = (sweep_run text l).groups

      go : (content : Areas) → length content.references ≤ item_count all → (t : Bool) → room_for content areas ≡ t
          → Few (annotate_ran (pick t (annotate_gives all content areas) (annotate_refused 10 (zero_filled areas))) (sweep_run text l).lent)
      go content r true q =
          let g = groups_few text l in
          let i = size_enough_run text l in
          record { number = omega arith; groups = omega arith; items = omega arith; sources = omega arith; labels = labels_few content areas q; note = swept_note text l k }
      go content r false q = refused_few 10 (zero_filled areas) (sweep_run text l).lent (omega arith) (swept_note text l k)

  annotate_refusal_low : (n m : ℕ) → annotate_refusal text mode pool n m ≤ 9
  unfolding annotate_refusal after_text
  annotate_refusal_low n m = go (too_long text) (utf8 text) (ltb 1 mode) (well_formed pool) (too_few text n m)
    where
      go : (a b c d e : Bool) → pick a 1 (pick b (pick c 6 (pick (not d) 7 (pick e 9 0))) 2) ≤ 9
      go true b c d e = omega arith
      go false false c d e = omega arith
      go false true true d e = omega arith
      go false true false false e = omega arith
      go false true false true true = omega arith
      go false true false true false = omega arith

  run_few : (note : ℕ) (index : List ℕ) (records : List Bracket) → note < 256 → Few (annotate_run text mode pool note index records areas)
  unfolding annotate_run
  run_few note index records h = go (eqb number 0) refl
    where
      number : ℕ
      number = annotate_refusal text mode pool (length index) (length records)

      go : (t : Bool) → eqb number 0 ≡ t
          → Few (pick t (annotate_swept text mode pool areas (sweep_run text (lent_of note index records)))
          (annotate_ran (annotate_refused number areas) (lent_of note index records)))
      go true q = swept_few (lent_of note index records) (annotate-unrefused text mode pool (length index) (length records) (eqb-true number 0 q)).enough.short h
      go false q = let l = annotate_refusal_low (length index) (length records) in refused_few number areas (lent_of note index records) (omega arith) h

pub annotation_words : (text : List ℕ) (mode : ℕ) (pool : List ℕ) (note : ℕ) (index : List ℕ) (records : List Bracket) (areas : Areas) → note < 256
    → Words (annotation_numbers (annotate_run text mode pool note index records areas))
unfolding annotation_numbers Words
annotation_words text mode pool note index records areas h =
    let f = run_few text mode pool areas note index records h in
    (omega (arith, f.number), (omega (arith, f.groups), (omega (arith, f.items), (omega (arith, f.sources), (omega (arith, f.labels), (omega (arith, f.note), tt))))))
