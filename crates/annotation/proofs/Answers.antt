-- What the two sweeps leave, with the numbers and the references
-- after them, is the answer of the call as run.
use Prim.Native.Nat.{ℕ, ◌*◌, ◌≤◌, min}
use native.Mathlib.Omega.{arith}
use mathlib.Core.Path.{◌≡◌, refl, sym, ◌∙◌, ap}
use mathlib.Core.List.{List, ◌++◌}
use mathlib.Core.Bool.{Bool, true, false, ◌&&◌, and-false, true≢false}
use lib.ListN.{length, drop}
use lib.Dec.{leb}
use borrow.Author.Tests.{eq-eqb, ne_eqb, le-leb, lt-leb, leb-true, leb-false}
use Rattle.base.specs.Pick.{pick}
use Rattle.base.specs.Lists.{written}
use Rattle.index.specs.declared.Bracket.{Bracket}
use Rattle.item.specs.Group.{Group}
use Rattle.resolve.specs.Resolve.{note_after, index_after, records_after}
use Rattle.sweep.specs.declared.group_records.SweepState.{SweepState}
use Rattle.sweep.specs.Sweep.{Lent, lent_of, lent_after, sweep_run}
use Rattle.standing.specs.GroupRecords.{group_records, item_count, item_records}
use Rattle.standing.specs.Swept.{swept_from}
use Rattle.sweep.specs.Stops.{start_state, SweptTo}
use Rattle.sweep.specs.Recording.{Recorded}
use Rattle.standing.proofs.Swept.{placed_length}
use Rattle.sweep.proofs.Laws.{item_records_length, group_records_length, all_groups_count, all_items_count, all_fitted, all_item_records, all_group_records, swept_whole, swept_lent}
use Rattle.numbering.specs.Numbers.{Numbered, number_all}
use Rattle.numbering.specs.Progress.{Unnumbered}
use Rattle.numbering.proofs.LabelledLaws.{swept_unnumbered}
use Rattle.order.specs.References.{SourcesKnown}
use Rattle.std.specs.Prelude.{Result, Ok, Err}
use Rattle.base.specs.Refusals.{number_of, refusal_of}
use Rattle.base.proofs.Refusals.{number_some, answered_err}
use Rattle.base.specs.declared.refusal.Refusal.{Refusal}
use Rattle.base.specs.declared.refusal.Refusal.TheVariants.{NoRoom}
use Rattle.annotation.specs.declared.answer.Counts.{Counts}
use Rattle.annotation.specs.declared.preparation.Begun.{Begun}
use Rattle.annotation.specs.Content.{Areas, areas, content_of}
use Rattle.annotation.specs.Refusal.{annotate_refusal}
use Rattle.annotation.specs.Call.{annotate_refused, room_for, content_written, zero_filled, annotate_gives, answer_of, AnnotateRan, annotate_ran, annotate_swept, annotate_run, zeros}
use Rattle.annotation.specs.Halves.{Zeroed, Done, RefusedBefore, SweptBefore, PreparedBy, prepared_wants}
use Rattle.annotation.specs.Values.{counts, annotation_values, annotation_answer, annotation_numbers}
use Rattle.annotation.specs.Steps.{swept_items, swept_groups, numbered_from, Fits, ContentAs}
use Rattle.annotation.specs.Ordering.{room_then, references_then, Ordered}
use Rattle.annotation.proofs.Counts.{sources_by}
use Rattle.annotation.proofs.Passes.{numbers_agree}
use Rattle.annotation.proofs.Found.{swept_fits}
use Rattle.annotation.proofs.ByRecords.{known_sources, content_agrees}
use Rattle.annotation.proofs.RefusalLaws.{Unrefused, unrefused}
use Rattle.records.specs.Widths.{group_width}

-- tests --------------------------------------------------------------------------------------------------------------------------------

leb_min : (n a k : ℕ) → leb n (min a k) ≡ (leb n a && leb n k)
leb_min n a k = go (leb n a) refl (leb n k) refl
  where
    go : (x : Bool) → leb n a ≡ x → (y : Bool) → leb n k ≡ y → leb n (min a k) ≡ (x && y)
    go true p true q =
        let u = leb-true n a p in
        let v = leb-true n k q in
        le-leb n (min a k) (omega arith)
    go true p false q = let v = leb-false n k q in lt-leb n (min a k) (omega arith)
    go false p y q = let u = leb-false n a p in lt-leb n (min a k) (omega arith)

-- the five tests of `room_for`, the first two of which are made before the others
none_before : (a b c d e : Bool) → (a && b) ≡ false → (a && b && c && d && e) ≡ false
none_before true true c d e h = absurd (true≢false h)
none_before true false c d e h = refl
none_before false b c d e h = refl

turned : (c d e : Bool) → ((e && d) && c) ≡ (c && d && e)
turned true true true = refl
turned true true false = refl
turned true false true = refl
turned true false false = refl
turned false d e = and-false (e && d)

all_after : (a b c d e : Bool) → (a && b) ≡ true → ((e && d) && c) ≡ (a && b && c && d && e)
all_after true true c d e h = turned c d e
all_after true false c d e h = absurd (true≢false (sym h))
all_after false b c d e h = absurd (true≢false (sym h))

-- two sweeps, and the records numbered ---------------------------------------------------------------------------------------------------

module _ {text : List ℕ} {mode : ℕ} {pool : List ℕ} {note : ℕ} {index₀ : List ℕ} {m : ℕ} {items₀ groups₀ : List ℕ} {begun : Begun}
    {items groups : List ℕ} (b : SweptBefore text mode pool note index₀ m items₀ groups₀ begun items groups) (records : List Bracket) where
  abbrev lent : Lent
  lent = lent_of note index₀ records

  abbrev all : List Group
  all = (sweep_run text lent).groups

  abbrev content : Areas
  content = content_of text mode all pool

  -- after the second sweep
  module _ {k : ℕ} (e : k ≡ note_after begun.swept.wants note) {index : List ℕ} (i : index ≡ index_after begun.swept.wants text index₀)
      {s : SweepState} {items' groups' : List ℕ} (t : SweptTo text k index begun.swept items groups s items' groups') where
    not_refused : Unrefused text mode pool (length index₀) m
    not_refused = unrefused text mode pool (length index₀) m b.passes

    whole : Recorded text all start_state items₀ groups₀ s items' groups'
    unfolding lent_after
    whole = swept_whole text lent b.sweeps (rw (e, i) at t)

    fits : Fits text all
    fits = swept_fits text lent not_refused.enough.short

    abbrev rest_items : List ℕ
    rest_items = drop (length (item_records all)) items₀

    abbrev rest_groups : List ℕ
    rest_groups = drop (length (group_records 0 (swept_from text false 0 all))) groups₀

    abbrev known : Numbered
    known = numbered_from text mode all pool rest_items rest_groups

    agrees : ContentAs content all known (references_then text mode pool (length all) (item_count all) known) rest_items rest_groups
    agrees = content_agrees text mode all pool rest_items rest_groups fits

    records_fit_lem : s.fits ≡ (leb (length content.items) (length items₀) && leb (length content.groups) (length groups₀))
    records_fit_lem = all_fitted whole ∙ rw (agrees.items_counted, agrees.group_count)

    -- the records as they are once they are numbered
    abbrev made : Numbered
    made = number_all text mode pool s.groups items' groups'

    module _ (f : s.fits ≡ true) where
      items_then : items' ≡ swept_items all rest_items
      unfolding written
      items_then = all_item_records whole f

      groups_then : groups' ≡ swept_groups text all rest_groups
      unfolding written
      groups_then = all_group_records whole f

      -- none of the records has a number yet
      pub items_unnumbered : Unnumbered s.items items'
      items_unnumbered = rw (items_then, all_items_count whole) (swept_unnumbered all rest_items)

      then_known : made ≡ known
      then_known = rw (all_groups_count whole, items_then, groups_then)

      then_ordered : references_then text mode pool s.groups s.items made ≡ content.references
      then_ordered = rw (then_known, all_groups_count whole, all_items_count whole) agrees.references

      then_sources : made.sources ≡ length content.references
      then_sources = rw then_known (sym agrees.source_count)

      then_labels : made.labels ≡ content.labels
      then_labels = rw then_known agrees.labels

      then_items : made.items ≡ written content.items items₀
      unfolding written
      then_items =
          ap (λ (x : Numbered). x.items) then_known
          ∙ (agrees.items ∙ ap (λ (n : ℕ). content.items ++ drop n items₀) (item_records_length all ∙ sym agrees.items_counted))

      then_groups : made.groups ≡ written content.groups groups₀
      unfolding written
      then_groups =
          ap (λ (x : Numbered). x.groups) then_known
          ∙ (agrees.groups
          ∙ ap (λ (n : ℕ). content.groups ++ drop n groups₀)
          (group_records_length 0 (swept_from text false 0 all) ∙ (ap (λ (n : ℕ). group_width * n) (placed_length _ text false 0 all) ∙ sym agrees.group_count)))

      -- there are no more sources than a number of 16 bits holds
      pub sources_short : made.sources ≤ 65535
      sources_short =
          let a : made.sources ≡ known.sources = ap (λ (x : Numbered). x.sources) then_known in
          let c = (numbers_agree text mode all pool rest_items rest_groups fits).sources in
          let d = sources_by text mode all pool in
          let h = fits.room in
          let l = fits.short in
          omega arith

      -- and they are known by their keys
      pub sources_known : SourcesKnown text pool made.groups made.items s.groups s.items made.sources
      sources_known = rw (then_known, all_groups_count whole, all_items_count whole) (known_sources text mode all pool rest_items rest_groups fits)

-- the call as run ----------------------------------------------------------------------------------------------------------------------

-- a refusal
module _ {text : List ℕ} {mode : ℕ} {pool : List ℕ} (note : ℕ) {index₀ : List ℕ} {m : ℕ} {items₀ groups₀ : List ℕ} {refusal : Refusal}
    {items groups : List ℕ} (b : RefusedBefore text mode pool index₀ m items₀ groups₀ refusal items groups) (records : List Bracket)
    (references labels : List ℕ) (l : length records ≡ m) where
  ran_refused : annotate_run text mode pool note index₀ records (areas items₀ groups₀ references labels)
      ≡ annotate_ran (annotate_refused (number_of refusal) (areas items₀ groups₀ references labels)) (lent_of note index₀ records)
  unfolding annotate_run
  ran_refused = rw (l, sym b.refuses, ne_eqb (number_of refusal) 0 (number_some refusal))

  pub done_refused : Done (annotate_run text mode pool note index₀ records (areas items₀ groups₀ references labels)) (record { counts = Err refusal; note = note }) items groups references labels
  unfolding annotate_ran annotation_answer annotation_values annotation_numbers
  done_refused = record {
    answer = rw (ran_refused, answered_err refusal (counts 0 0 0 0));
    values = rw ran_refused;
    item_area = b.item_area ∙ rw ran_refused;
    group_area = b.group_area ∙ rw ran_refused;
    reference_area = rw ran_refused;
    label_area = rw ran_refused;
  }

-- a sweep
module _ {text : List ℕ} {mode : ℕ} {pool : List ℕ} {note : ℕ} {index₀ : List ℕ} {m : ℕ} {items₀ groups₀ : List ℕ} {begun : Begun}
    {items groups : List ℕ} (b : SweptBefore text mode pool note index₀ m items₀ groups₀ begun items groups) (records : List Bracket)
    (references labels : List ℕ) (l : length records ≡ m) where
  abbrev held : Areas
  held = areas items₀ groups₀ references labels

  abbrev ran : AnnotateRan
  ran = annotate_run text mode pool note index₀ records held

  abbrev found : List Group
  found = all b records

  abbrev wanted : Areas
  wanted = content b records

  ran_swept : ran
      ≡ annotate_ran
      (pick (room_for wanted held) (annotate_gives found wanted held) (annotate_refused 10 (zero_filled held)))
      (lent_after begun.swept.wants text (lent b records))
  unfolding annotate_run annotate_swept answer_of
  ran_swept = rw (l, eq-eqb (annotate_refusal text mode pool (length index₀) m) 0 b.passes, swept_lent text (lent b records) b.sweeps)

  -- an answer by the room that there is
  done_by : {k : ℕ} → k ≡ note_after begun.swept.wants note → (t : Bool) → room_for wanted held ≡ t
      → {r : Result Counts Refusal} {items' groups' references' labels' : List ℕ}
      → r ≡ pick t (Ok (counts (length found) (item_count found) (length wanted.references) (length wanted.labels))) (Err NoRoom)
      → items' ≡ pick t (written wanted.items items₀) (zeros items₀)
      → groups' ≡ pick t (written wanted.groups groups₀) (zeros groups₀)
      → references' ≡ pick t (written wanted.references references) (zeros references)
      → labels' ≡ pick t (written wanted.labels labels) (zeros labels)
      → Done ran (record { counts = r; note = k }) items' groups' references' labels'
  unfolding refusal_of annotate_ran annotation_answer annotation_values annotation_numbers annotate_gives content_written zero_filled lent_after
  done_by e true q v i g f l = record {
    answer = rw (v, ran_swept, q, e);
    values = rw (v, ran_swept, q, e);
    item_area = i ∙ rw (ran_swept, q);
    group_area = g ∙ rw (ran_swept, q);
    reference_area = f ∙ rw (ran_swept, q);
    label_area = l ∙ rw (ran_swept, q);
  }
  done_by e false q v i g f l = record {
    answer = rw (v, ran_swept, q, e);
    values = rw (v, ran_swept, q, e);
    item_area = i ∙ rw (ran_swept, q);
    group_area = g ∙ rw (ran_swept, q);
    reference_area = f ∙ rw (ran_swept, q);
    label_area = l ∙ rw (ran_swept, q);
  }

  module _ {k : ℕ} (e : k ≡ note_after begun.swept.wants note) {index : List ℕ} (i : index ≡ index_after begun.swept.wants text index₀)
      {s : SweepState} {items' groups' : List ℕ} (t : SweptTo text k index begun.swept items groups s items' groups') where
    recorded : Recorded text found start_state items₀ groups₀ s items' groups'
    recorded = whole b records e i t

    tested : s.fits ≡ (leb (length wanted.items) (length items₀) && leb (length wanted.groups) (length groups₀))
    tested = records_fit_lem b records e i t

    module _ (f : s.fits ≡ false) where
      no_room : room_for wanted held ≡ false
      unfolding room_for
      no_room =
          none_before (leb (length wanted.items) (length items₀)) (leb (length wanted.groups) (length groups₀))
          (leb (length wanted.references) (length references)) (leb (length wanted.labels) (length labels))
          (leb (length wanted.labels) 65535)
          (sym tested ∙ f)

      pub done_few : {r : Result Counts Refusal} {items'' groups'' references'' labels'' : List ℕ}
          → Zeroed items' groups' references labels r items'' groups'' references'' labels''
          → Done ran (record { counts = r; note = k }) items'' groups'' references'' labels''
      done_few o =
          done_by e false no_room o.refused (o.item_area ∙ rw recorded.item_area) (o.group_area ∙ rw recorded.group_area)
          o.reference_area o.label_area

    module _ (f : s.fits ≡ true) where
      room : room_then (made b records e i t) references labels ≡ room_for wanted held
      unfolding room_then room_for
      room =
          rw
          (then_labels b records e i t f, then_sources b records e i t f, leb_min (length wanted.labels) 65535 (length labels))
          (all_after (leb (length wanted.items) (length items₀)) (leb (length wanted.groups) (length groups₀))
          (leb (length wanted.references) (length references)) (leb (length wanted.labels) (length labels))
          (leb (length wanted.labels) 65535)
          (sym tested ∙ f))

      pub done_room : {r : Result Counts Refusal} {items'' groups'' references'' labels'' : List ℕ}
          → Ordered text mode pool s.groups s.items items' groups' references labels r items'' groups'' references'' labels''
          → Done ran (record { counts = r; note = k }) items'' groups'' references'' labels''
      done_room o =
          done_by e (room_for wanted held) refl
          (o.answer
          ∙ rw (room, then_sources b records e i t f, then_labels b records e i t f, all_groups_count recorded, all_items_count recorded))
          (o.item_area ∙ rw (room, then_items b records e i t f, recorded.item_area))
          (o.group_area ∙ rw (room, then_groups b records e i t f, recorded.group_area))
          (o.reference_area ∙ rw (room, then_ordered b records e i t f))
          (o.label_area ∙ rw (room, then_labels b records e i t f))

-- the index and the bracket records that the call leaves
module _ (text : List ℕ) (mode : ℕ) (pool : List ℕ) (note : ℕ) (index₀ items₀ groups₀ : List ℕ) (records : List Bracket) (references labels : List ℕ) where
  abbrev left : AnnotateRan
  left = annotate_run text mode pool note index₀ records (areas items₀ groups₀ references labels)

  pub ran_index : (p : Result Begun Refusal) (items groups : List ℕ) → PreparedBy text mode pool note index₀ (length records) items₀ groups₀ p items groups
      → left.index ≡ index_after (prepared_wants p) text index₀
  unfolding annotate_ran lent_after index_after prepared_wants
  ran_index (Err refusal) items groups b = rw (ran_refused note b records references labels refl)
  ran_index (Ok s) items groups b = rw (ran_swept b records references labels refl)

  pub ran_records : (p : Result Begun Refusal) (items groups : List ℕ) → PreparedBy text mode pool note index₀ (length records) items₀ groups₀ p items groups
      → left.records ≡ records_after (prepared_wants p) text records
  unfolding annotate_ran lent_after records_after prepared_wants
  ran_records (Err refusal) items groups b = rw (ran_refused note b records references labels refl)
  ran_records (Ok s) items groups b = rw (ran_swept b records references labels refl)
