-- One turn of the sweep, and turns one after the other,
-- in the form of the code's goals.
use Prim.Native.Nat.{ℕ, zero, suc, ◌+◌, ◌-◌, ◌≤◌, ◌<◌}
use native.Mathlib.Omega.{arith}
use mathlib.Core.Path.{◌≡◌, refl, sym, ◌∙◌, ap}
use mathlib.Core.List.{List, [], ◌∷◌, ◌++◌, append-nil, append_assoc}
use mathlib.Core.Bool.{Bool, true, false, true≢false}
use lib.ListN.{length}
use lib.Dec.{eqb}
use borrow.Author.Tests.{lt-ltb, eqb-true}
use Rattle.std.specs.Prelude.{Option, Some, None}
use Rattle.base.specs.Pick.{pick}
use Rattle.base.specs.First.{first, first_of}
use Rattle.base.specs.Lists.{byte_at}
use Rattle.base.proofs.Searches.{first_from, first_by, first_holds}
use Rattle.index.specs.Entries.{opens_at}
use Rattle.resolve.specs.Groups.{Found, NoGroup, judge}
use Rattle.item.specs.Group.{Group, group_of}
use Rattle.resolve.specs.Resolve.{is_build}
use Rattle.resolve.specs.declared.Group.{Group as Matched}
use Rattle.resolve.specs.declared.Look.TheVariants.{Known, Build}
use Rattle.resolve.specs.Looks.{matched}
use Rattle.resolve.proofs.Judges.{matched_is, unmatched_is}
use Rattle.resolve.proofs.Laws.{at_after, at_inside}
use Rattle.sweep.specs.declared.group_records.SweepState.{SweepState}
use Rattle.sweep.specs.Sweep.{found_groups, next_at, found_with, wants_at}
use Rattle.sweep.specs.Stops.{stop, after, stop_in, stop_from, SweptTo}
use Rattle.sweep.specs.Recording.{Counted, Recorded, Recordable, RecordedOne}
use Rattle.sweep.specs.Steps.{step_at, moved_to, Onward, Turned}
use Rattle.standing.specs.Stands.{GroupFrom}
use Rattle.sweep.proofs.Stops.{stop_end, stop_enough}
use Rattle.sweep.proofs.Laws.{recorded_none, recorded_both}
use Rattle.sweep.proofs.Steps.{none_wants, none_found, step_wants, found_inside, no_build, found_is}

-- the sweep from a place on --------------------------------------------------------------------------------------------------------

module _ (text : List ℕ) (note : ℕ) (index : List ℕ) where
  stop_out : (at : ℕ) → length text ≤ at → stop_from text note index at ≡ stop [] at false
  unfolding stop_from
  stop_out at h = stop_end text (length text) note index at h

  turns_once : (at : ℕ) → at < length text
      → stop_from text note index at
      ≡ pick (wants_at text note at) (stop [] at true)
      (after (found_groups (found_with text note index at)) (stop_from text note index (next_at at (found_with text note index at))))
  unfolding stop_from stop_in
  turns_once at h =
      stop_enough text (length text) (suc (length text)) note index at (omega arith) (omega arith)
      ∙ rw (lt-ltb at (length text) h)

  stop_on : (at : ℕ) → at < length text → wants_at text note at ≡ false
      → stop_from text note index at
      ≡ after (found_groups (found_with text note index at)) (stop_from text note index (next_at at (found_with text note index at)))
  stop_on at h w = turns_once at h ∙ rw w

  stop_build : (at : ℕ) → at < length text → wants_at text note at ≡ true → stop_from text note index at ≡ stop [] at true
  stop_build at h w = turns_once at h ∙ rw w

  -- at a place with no group the sweep goes on at the next byte
  stop_none : (at : ℕ) → at < length text → wants_at text note at ≡ false → found_with text note index at ≡ NoGroup
      → stop_from text note index at ≡ stop_from text note index (at + 1)
  stop_none at h w f = stop_on at h w ∙ rw f

  -- and over bytes that are no `[`
  stop_skip : (n at : ℕ) → at + n ≤ length text
      → stop_from text note index at ≡ stop_from text note index (first (λ i. eqb (byte_at text i) 91) n at)
  unfolding first opens_at
  stop_skip zero at h = refl
  stop_skip (suc n) at h = go (eqb (byte_at text at) 91) refl (stop_skip n (at + 1) (omega arith))
    where
      go : (t : Bool) → eqb (byte_at text at) 91 ≡ t
          → stop_from text note index (at + 1) ≡ stop_from text note index (first (λ i. eqb (byte_at text i) 91) n (at + 1))
          → stop_from text note index at ≡ stop_from text note index (pick t at (first (λ i. eqb (byte_at text i) 91) n (at + 1)))
      go true e rest = refl
      go false e rest =
          let b : at < length text = omega arith in
          let o : opens_at text at ≡ false = rw (lt-ltb at (length text) b, e) in
          stop_none at b (none_wants text note index at o) (none_found text note index at o) ∙ rest

-- what is found at the place -------------------------------------------------------------------------------------------------------

record StepFound (text : List ℕ) (note : ℕ) (index : List ℕ) (at close count : ℕ) : Type 0 where
  found : found_with text note index at ≡ Found (group_of text at close)
  stands : GroupFrom text at close count

module _ (text : List ℕ) (note : ℕ) (index : List ℕ) (at : ℕ) {d : Option ℕ} (k : Known d ≡ step_at text note index at) where
  step_none : None ≡ matched (judge text at d) → found_with text note index at ≡ NoGroup
  step_none e = found_is text note index at k ∙ unmatched_is text at d (sym e)

  step_found : {g : Matched} → Some g ≡ matched (judge text at d) → StepFound text note index at g.close g.count
  step_found {g} e =
      let i = matched_is text at d g (sym e) in
      let h = found_inside text note index at k in
      record {
        found = found_is text note index at k ∙ i.2;
        stands = record { after = at_after text at i.0 h; inside = at_inside text at i.0 h; good = i.1.accepted; counts = i.3 };
      }

-- one turn: it comes to the place `at` -----------------------------------------------------------------------------------------------

-- a state moved on, with no group
moved_recorded : (text : List ℕ) (s : SweepState) (items groups : List ℕ) (at : ℕ) (wants : Bool) → Counted text s (length items) (length groups)
    → Recorded text [] s items groups (moved_to s at wants) items groups
moved_recorded text s items groups at wants h =
    let r = recorded_none text s items groups h.room in
    record {
      group_count = r.group_count;
      items_counted = r.items_counted;
      line = r.line;
      end = r.end;
      fitted = r.fitted;
      item_area = refl;
      group_area = refl;
      items_recorded = r.items_recorded;
      groups_recorded = r.groups_recorded;
    }

moved_counted : (text : List ℕ) (s : SweepState) (items groups at : ℕ) (wants : Bool) → Counted text s items groups → s.at ≤ at → at ≤ length text
    → Counted text (moved_to s at wants) items groups
moved_counted text s items groups at wants h g k =
    let i = h.items_by in
    let j = h.groups_by in
    record { at_by = k; items_by = omega arith; groups_by = omega arith; room = h.room }

module _ (text : List ℕ) (note : ℕ) (index : List ℕ) (s : SweepState) (items groups : List ℕ) {at : ℕ}
    (q : at ≡ first_of 91 text s.at (length text)) (h : s.at < length text) (counts : Counted text s (length items) (length groups)) where
  from_here : s.at ≤ at
  from_here = omega (arith, first_from (λ i. eqb (byte_at text i) 91) (length text - s.at) s.at)

  by_end : at ≤ length text
  by_end = omega (arith, first_by (λ i. eqb (byte_at text i) 91) (length text - s.at) s.at)

  skipped : stop_from text note index s.at ≡ stop_from text note index at
  skipped = stop_skip text note index (length text - s.at) s.at (omega arith) ∙ ap (stop_from text note index) (sym q)

  pub bracket_there : at < length text → byte_at text at ≡ 91
  bracket_there k =
      let f = first_from (λ i. eqb (byte_at text i) 91) (length text - s.at) s.at in
      ap (byte_at text) q
      ∙ eqb-true (byte_at text (first_of 91 text s.at (length text))) 91
      (first_holds (λ i. eqb (byte_at text i) 91) (length text - s.at) s.at (omega arith))

  -- with no group
  moved_on : (to : ℕ) (wants : Bool) → at ≤ to → to ≤ length text → stop_from text note index at ≡ stop_from text note index to
      → Onward text note index s items groups (moved_to s to wants) items groups
  moved_on to wants a b e =
      let z = from_here in
      record {
        found = [];
        goes_on = skipped ∙ e;
        recorded = moved_recorded text s items groups to wants counts;
        counted = moved_counted text s (length items) (length groups) to wants counts (omega arith) b;
      }

  pub turned_end : {r : SweepState} → length text ≤ at → r ≡ moved_to s at false → Turned text note index s items groups r items groups
  turned_end k e =
      rw e
      record {
        onward = moved_on at false (omega arith) by_end refl;
        stops = λ z. absurd (true≢false (sym z));
        moves = λ z. omega arith;
      }

  module _ (b : at < length text) where
    pub turned_build : {r : SweepState} → Build ≡ step_at text note index at → r ≡ moved_to s at true → Turned text note index s items groups r items groups
    turned_build k e =
        rw e
        record {
          onward = moved_on at true (omega arith) by_end refl;
          stops = λ w. stop_build text note index at b (sym (step_wants text note index at) ∙ ap is_build (sym k));
          moves = λ w. absurd (true≢false w);
        }

    module _ {d : Option ℕ} (k : Known d ≡ step_at text note index at) where
      pub turned_next : {r : SweepState} → None ≡ matched (judge text at d) → r ≡ moved_to s (at + 1) false → Turned text note index s items groups r items groups
      turned_next o e =
          let y = from_here in
          rw e
          record {
            onward = moved_on (at + 1) false (omega arith) (omega arith)
                (stop_none text note index at b (no_build text note index at k) (step_none text note index at k o));
            stops = λ w. absurd (true≢false (sym w));
            moves = λ w. omega arith;
          }

      module _ {g : Matched} (o : Some g ≡ matched (judge text at d)) where
        pub turn_recordable : length text ≤ 65535 → Recordable text at g.close g.count s (length items) (length groups)
        turn_recordable n = record { stands = (step_found text note index at k o).stands; short = n; later = from_here; counted = counts }

        pub turned_group : {r : SweepState} {items' groups' : List ℕ} → RecordedOne text at g.close s items groups r items' groups'
            → Turned text note index s items groups r items' groups'
        unfolding group_of
        turned_group {r} y =
            let x = from_here in
            let i = step_found text note index at k o in
            let f = i.found in
            let e : r.at ≡ g.close + 1 = y.next in
            let a = i.stands.after in
            record {
              onward = record {
                found = group_of text at g.close ∷ [];
                goes_on = skipped ∙ stop_on text note index at b (no_build text note index at k) ∙ rw (f, e);
                recorded = y.recorded;
                counted = y.counted;
              };
              stops = λ w. absurd (true≢false (sym w ∙ y.no_build));
              moves = λ w. omega arith;
            }

pub ruleset turn_laws = (bracket_there, found_inside, turned_end)

-- turns one after the other ----------------------------------------------------------------------------------------------------------

pub onward_start : (text : List ℕ) (note : ℕ) (index : List ℕ) (r : SweepState) (items groups : List ℕ) → Counted text r (length items) (length groups)
    → Onward text note index r items groups r items groups
onward_start text note index r items groups h =
    record { found = []; goes_on = refl; recorded = recorded_none text r items groups h.room; counted = h }

module _ {text : List ℕ} {note : ℕ} {index : List ℕ} {s : SweepState} {items groups : List ℕ} {r : SweepState} {items' groups' : List ℕ}
    (a : Onward text note index s items groups r items' groups') where
  -- what the next turn asks
  pub onward_counted : Counted text r (length items') (length groups')
  onward_counted = rw (a.recorded.item_area, a.recorded.group_area) a.counted

  module _ {t : SweepState} {items'' groups'' : List ℕ} (b : Turned text note index r items' groups' t items'' groups'') where
    pub onward_more : Onward text note index s items groups t items'' groups''
    onward_more =
        record {
          found = a.found ++ b.onward.found;
          goes_on = a.goes_on ∙ rw b.onward.goes_on
              (let z = stop_from text note index t.at in
              ap (λ (gs : List Group). stop gs z.at z.wants) (sym (append_assoc a.found b.onward.found z.groups)));
          recorded = recorded_both text a.found b.onward.found s r t items groups items' groups' items'' groups'' a.recorded b.onward.recorded;
          counted = rw (← a.recorded.item_area, ← a.recorded.group_area) b.onward.counted;
        }

    pub turn_less : t.wants ≡ false → r.at < length text → length text - t.at < length text - r.at
    turn_less w h = let m = b.moves w in omega arith

  pub items_length : length items' ≡ length items
  items_length = a.recorded.item_area

  pub groups_length : length groups' ≡ length groups
  groups_length = a.recorded.group_area

-- the sweep began at the state `r₀`, which is `s` with no wish for a build
module _ {text : List ℕ} {note : ℕ} {index : List ℕ} {s r₀ : SweepState} {items groups : List ℕ} {r : SweepState} {items' groups' : List ℕ}
    (e : r₀ ≡ moved_to s s.at false) (a : Onward text note index r₀ items groups r items' groups') where
  swept_at : (w : Bool) → stop_from text note index r.at ≡ stop [] r.at w → r.wants ≡ w → SweptTo text note index s items groups r items' groups'
  swept_at w z v =
      let b : Onward text note index (moved_to s s.at false) items groups r items' groups' = rw e at a in
      let x = b.recorded in
      let g : stop_from text note index s.at ≡ stop b.found r.at w =
      b.goes_on ∙ rw z (ap (λ (gs : List Group). stop gs r.at w) (append-nil b.found)) in
      record {
        stands = rw g refl;
        builds = rw g v;
        records = rw g
            record {
              group_count = x.group_count;
              items_counted = x.items_counted;
              line = x.line;
              end = x.end;
              fitted = x.fitted;
              item_area = x.item_area;
              group_area = x.group_area;
              items_recorded = x.items_recorded;
              groups_recorded = x.groups_recorded;
            };
        counted = b.counted;
      }

  pub swept_end : r.wants ≡ false → length text ≤ r.at → SweptTo text note index s items groups r items' groups'
  swept_end w h = swept_at false (stop_out text note index r.at h) w

swept_stop : {text : List ℕ} {note : ℕ} {index : List ℕ} {s r₀ : SweepState} {items groups : List ℕ} {t : SweepState} {items' groups' : List ℕ}
    → r₀ ≡ moved_to s s.at false → Onward text note index r₀ items groups t items' groups'
    → stop_from text note index t.at ≡ stop [] t.at true → t.wants ≡ true → SweptTo text note index s items groups t items' groups'
swept_stop e a z w = swept_at e a true z w

pub swept_build : {text : List ℕ} {note : ℕ} {index : List ℕ} {s r₀ : SweepState} {items groups : List ℕ} {r : SweepState} {items' groups' : List ℕ}
    {t : SweepState} {items'' groups'' : List ℕ}
    → r₀ ≡ moved_to s s.at false → Onward text note index r₀ items groups r items' groups' → Turned text note index r items' groups' t items'' groups''
    → t.wants ≡ true → SweptTo text note index s items groups t items'' groups''
swept_build e a b w = swept_stop e (onward_more a b) (b.stops w) w

-- the state that it begins with
pub begin_counted : (text : List ℕ) (s : SweepState) (items groups : ℕ) {r₀ : SweepState} → r₀ ≡ moved_to s s.at false → Counted text s items groups
    → Counted text r₀ items groups
begin_counted text s items groups e h = rw e (moved_counted text s items groups s.at false h (omega arith) h.at_by)

pub begin_wants : (s : SweepState) (at : ℕ) {r₀ : SweepState} → r₀ ≡ moved_to s at false → r₀.wants ≡ false
begin_wants s at e = rw e

pub ruleset sweep_laws = (
  onward_start,
  onward_counted,
  onward_more,
  turn_less,
  items_length,
  groups_length,
  begin_counted,
  begin_wants,
)
