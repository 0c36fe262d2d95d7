-- The records of a sweep,
-- over lists of groups that follow each other.
use Prim.Native.Nat.{ℕ, ◌+◌, ◌*◌, ◌≤◌}
use native.Mathlib.Omega.{arith}
use mathlib.Core.Path.{◌≡◌, refl, sym, ◌∙◌, ap}
use mathlib.Core.List.{List, [], ◌∷◌, ◌++◌, flat_map, append_assoc}
use mathlib.Core.Bool.{Bool, true, false, ◌&&◌, and-false}
use lib.ListN.{length, length-append}
use lib.Dec.{leb}
use borrow.Author.Tests.{leb-true, le-leb}
use Rattle.base.specs.Pick.{pick}
use Rattle.base.specs.Lists.{written}
use Rattle.base.proofs.Bools.{and_left, and_right}
use Rattle.item.specs.Group.{Group}
use Rattle.records.specs.ItemRecords.{records_of, records_length}
use Rattle.records.proofs.RecordLaws.{records_length_lem}
use Rattle.definition_line.specs.Lines.{in_line, group_end}
use Rattle.sweep.specs.declared.group_records.SweepState.{SweepState}
use Rattle.standing.proofs.Swept.{placed_length}
use Rattle.sweep.specs.Sweep.{Lent, Swept, lent_after, sweep_run}
use Rattle.standing.specs.GroupRecords.{Placed, placed, group_record, group_records, item_count, item_records, placed_by}
use Rattle.standing.specs.Swept.{swept_from, inside_after, end_after}
use Rattle.sweep.specs.Stops.{stop_from, start_state, SweptTo}
use Rattle.sweep.specs.Areas.{written_at}
use Rattle.sweep.specs.Recording.{records_fit, Counted, Recorded}
use Rattle.sweep.specs.Facts.{gone_on}
use Rattle.sweep.proofs.Areas.{written_none, written_more, written_front}
use Rattle.sweep.proofs.Sizes.{count_append}
use Rattle.sweep.proofs.Stops.{sweep_in_two}
use Rattle.records.specs.Widths.{item_width, group_width}

-- item records ---------------------------------------------------------------------------------------------------------------------

pub item_records_length : (gs : List Group) → length (item_records gs) ≡ item_width * item_count gs
unfolding flat_map item_count records_length
item_records_length [] = refl
item_records_length (g ∷ gs) =
    let h = item_records_length gs in
    let r = records_length_lem g in
    rw length-append (omega arith)

pub item_records_append : (gs hs : List Group) → item_records (gs ++ hs) ≡ item_records gs ++ item_records hs
unfolding flat_map
item_records_append [] hs = refl
item_records_append (g ∷ gs) hs = rw (item_records_append gs hs) (sym (append_assoc (records_of g) (item_records gs) (item_records hs)))

-- group records --------------------------------------------------------------------------------------------------------------------

pub group_records_length : (n : ℕ) (ps : List Placed) → length (group_records n ps) ≡ group_width * length ps
unfolding group_records group_record
group_records_length n [] = refl
group_records_length n (p ∷ ps) = let h = group_records_length (n + length p.group.items) ps in omega arith

module _ (text : List ℕ) where
  -- the groups `hs` after the groups `gs`
  pub inside_append : (before : Bool) (from : ℕ) (gs hs : List Group)
      → inside_after text before from (gs ++ hs) ≡ inside_after text (inside_after text before from gs) (end_after from gs) hs
  unfolding inside_after end_after
  inside_append before from [] hs = refl
  inside_append before from (g ∷ gs) hs = inside_append (in_line text before from g) (group_end g) gs hs

  pub group_records_append : (n : ℕ) (before : Bool) (from : ℕ) (gs hs : List Group)
      → group_records n (swept_from text before from (gs ++ hs))
      ≡ group_records n (swept_from text before from gs)
      ++ group_records (n + item_count gs) (swept_from text (inside_after text before from gs) (end_after from gs) hs)
  unfolding placed_by inside_after end_after group_records item_count
  group_records_append n before from [] hs = let z : n + 0 ≡ n = omega arith in rw z
  group_records_append n before from (g ∷ gs) hs =
      let z : n + length g.items + item_count gs ≡ n + (length g.items + item_count gs) = omega arith in
      let row : List ℕ = group_record n (placed g (pick (in_line text before from g) 0 1)) in
      rw (group_records_append (n + length g.items) (in_line text before from g) (group_end g) gs hs, z)
      (sym (append_assoc row _ _))

pub end_append : (from : ℕ) (gs hs : List Group) → end_after from (gs ++ hs) ≡ end_after (end_after from gs) hs
unfolding end_after
end_append from [] hs = refl
end_append from (g ∷ gs) hs = end_append (group_end g) gs hs

-- one sweep after another ----------------------------------------------------------------------------------------------------------

-- fewer records fit where more do
module _ (n g m k items groups : ℕ) (h : n ≤ m) (i : g ≤ k) where
  pub fit_less : records_fit m k items groups ≡ true → records_fit n g items groups ≡ true
  fit_less e =
      let a : item_width * m ≤ items = leb-true _ _ (and_left _ _ e) in
      let b : group_width * k ≤ groups = leb-true _ _ (and_right (leb (item_width * m) items) _ e) in
      rw (le-leb (item_width * n) items (omega arith), le-leb (group_width * g) groups (omega arith))

  pub fit_both : (x : Bool) → ((x && records_fit n g items groups) && records_fit m k items groups) ≡ (x && records_fit m k items groups)
  fit_both x = go (records_fit m k items groups) refl
    where
      none : (x y : Bool) → ((x && y) && false) ≡ (x && false)
      none true y = and-false y
      none false y = refl

      all : (x : Bool) → ((x && true) && true) ≡ (x && true)
      all true = refl
      all false = refl

      go : (t : Bool) → records_fit m k items groups ≡ t → ((x && records_fit n g items groups) && t) ≡ (x && t)
      go true e = rw (fit_less e) (all x)
      go false e = none x (records_fit n g items groups)

-- no group
pub recorded_none : (text : List ℕ) (s : SweepState) (items groups : List ℕ)
    → (s.fits ≡ true → records_fit s.items s.groups (length items) (length groups) ≡ true)
    → Recorded text [] s items groups s items groups
unfolding item_count inside_after end_after flat_map placed_by group_records
recorded_none text s items groups room = record {
  group_count = omega arith;
  items_counted = omega arith;
  line = refl;
  end = refl;
  fitted = go s.fits room;
  item_area = refl;
  group_area = refl;
  items_recorded = λ h. written_none (item_width * s.items) items;
  groups_recorded = λ h. written_none (group_width * s.groups) groups;
}
  where
    go : (t : Bool) → (t ≡ true → records_fit s.items s.groups (length items) (length groups) ≡ true)
        → t ≡ (t && records_fit s.items s.groups (length items) (length groups))
    go true h = sym (h refl)
    go false h = refl

-- the groups `hs` after the groups `gs`
module _ (text : List ℕ) (gs hs : List Group) (s r t : SweepState) (items groups items' groups' items'' groups'' : List ℕ)
    (a : Recorded text gs s items groups r items' groups') (b : Recorded text hs r items' groups' t items'' groups'') where
  counts_groups : t.groups ≡ s.groups + length (gs ++ hs)
  counts_groups = let x = a.group_count in let y = b.group_count in rw length-append (omega arith)

  counts_items : t.items ≡ s.items + item_count (gs ++ hs)
  counts_items = let x = a.items_counted in let y = b.items_counted in let z = count_append gs hs in omega arith

  fit_first : (r.fits && records_fit t.items t.groups (length items) (length groups))
      ≡ (s.fits && records_fit t.items t.groups (length items) (length groups))
  fit_first =
      let y = b.items_counted in
      let z = b.group_count in
      rw a.fitted
      (fit_both r.items r.groups t.items t.groups (length items) (length groups) (omega arith) (omega arith) s.fits)

  fits_then : t.fits ≡ (r.fits && records_fit t.items t.groups (length items) (length groups))
  fits_then = rw (a.item_area, a.group_area) at b.fitted

  -- where all fit, those of the first did
  fit_before : t.fits ≡ true → r.fits ≡ true
  fit_before h = and_left r.fits _ (sym fits_then ∙ h)

  room : t.fits ≡ true → records_fit r.items r.groups (length items) (length groups) ≡ true
  room h = and_right s.fits _ (sym a.fitted ∙ fit_before h)

  item_room : t.fits ≡ true → item_width * s.items + length (item_records gs) ≤ length items
  item_room h =
      let x = leb-true (item_width * r.items) (length items) (and_left _ _ (room h)) in
      let y = item_records_length gs in
      let z = a.items_counted in
      omega arith

  group_room : t.fits ≡ true → group_width * s.groups + length (group_records s.items (swept_from text s.inside s.from gs)) ≤ length groups
  group_room h =
      let x = leb-true (group_width * r.groups) (length groups) (and_right (leb (item_width * r.items) (length items)) _ (room h)) in
      let y = group_records_length s.items (swept_from text s.inside s.from gs) in
      let w : length (swept_from text s.inside s.from gs) ≡ length gs = placed_length _ text s.inside s.from gs in
      let z = a.group_count in
      omega arith

  all_items : t.fits ≡ true → items'' ≡ written_at (item_width * s.items) (item_records (gs ++ hs)) items
  all_items h =
      let y = item_records_length gs in
      let z = a.items_counted in
      b.items_recorded h
      ∙ rw (a.items_recorded (fit_before h), item_records_append gs hs)
      (written_more (item_width * s.items) items (item_records gs) (item_room h) (item_records hs) (item_width * r.items) (omega arith))

  all_groups : t.fits ≡ true
      → groups'' ≡ written_at (group_width * s.groups) (group_records s.items (swept_from text s.inside s.from (gs ++ hs))) groups
  all_groups h =
      let y = group_records_length s.items (swept_from text s.inside s.from gs) in
      let w : length (swept_from text s.inside s.from gs) ≡ length gs = placed_length _ text s.inside s.from gs in
      let z = a.group_count in
      b.groups_recorded h
      ∙ rw (a.groups_recorded (fit_before h), a.items_counted, a.line, a.end, group_records_append text s.items s.inside s.from gs hs)
      (written_more (group_width * s.groups) groups (group_records s.items (swept_from text s.inside s.from gs)) (group_room h) _ (group_width * r.groups) (omega arith))

  pub recorded_both : Recorded text (gs ++ hs) s items groups t items'' groups''
  recorded_both = record {
    group_count = counts_groups;
    items_counted = counts_items;
    line = b.line ∙ rw (a.line, a.end) (sym (inside_append text s.inside s.from gs hs));
    end = b.end ∙ rw a.end (sym (end_append s.from gs hs));
    fitted = fits_then ∙ fit_first;
    item_area = b.item_area ∙ a.item_area;
    group_area = b.group_area ∙ a.group_area;
    items_recorded = all_items;
    groups_recorded = all_groups;
  }

-- from the first state on ------------------------------------------------------------------------------------------------------------

-- what the first sweep asks of it
pub start_counted : (text : List ℕ) (items groups : ℕ) → Counted text start_state items groups
start_counted text items groups =
    record { at_by = omega arith; items_by = omega arith; groups_by = omega arith; room = λ h. rw (le-leb 0 items (omega arith), le-leb 0 groups (omega arith)) }

module _ {text : List ℕ} {gs : List Group} {items groups : List ℕ} {r : SweepState} {items' groups' : List ℕ}
    (a : Recorded text gs start_state items groups r items' groups') where
  pub all_groups_count : r.groups ≡ length gs
  all_groups_count = let x = a.group_count in omega arith

  pub all_items_count : r.items ≡ item_count gs
  all_items_count = let x = a.items_counted in omega arith

  -- all records fitted exactly where they fit
  pub all_fitted : r.fits ≡ records_fit (item_count gs) (length gs) (length items) (length groups)
  all_fitted = a.fitted ∙ rw (all_items_count, all_groups_count)

  pub all_item_records : r.fits ≡ true → items' ≡ written (item_records gs) items
  all_item_records h = a.items_recorded h ∙ written_front (item_records gs) items

  pub all_group_records : r.fits ≡ true → groups' ≡ written (group_records 0 (swept_from text false 0 gs)) groups
  all_group_records h = a.groups_recorded h ∙ written_front (group_records 0 (swept_from text false 0 gs)) groups

-- Two sweeps: the first with the index and the note as they were lent, the second, from where it stopped, with those after the build, if
-- one was wanted. They record the groups of the sweep as run.
pub swept_whole : (text : List ℕ) (l : Lent) {items groups : List ℕ} {r : SweepState} {items' groups' : List ℕ} {t : SweepState} {items'' groups'' : List ℕ}
    → SweptTo text l.note l.index start_state items groups r items' groups'
    → SweptTo text (lent_after r.wants text l).note (lent_after r.wants text l).index r items' groups' t items'' groups''
    → Recorded text (sweep_run text l).groups start_state items groups t items'' groups''
unfolding gone_on
swept_whole text l {items} {groups} {r} {items'} {groups'} {t} {items''} {groups''} a b =
    let s = stop_from text l.note l.index 0 in
    let u = stop_from text (lent_after r.wants text l).note (lent_after r.wants text l).index r.at in
    let e : (sweep_run text l).groups ≡ s.groups ++ u.groups = ap (λ (x : Swept). x.groups) (sweep_in_two text l) ∙ rw (a.stands, a.builds) in
    rw e (recorded_both text s.groups u.groups start_state r t items groups items' groups' items'' groups'' a.records b.records)

-- and leave what the sweep as run leaves
pub swept_lent : (text : List ℕ) (l : Lent) {items groups : List ℕ} {r : SweepState} {items' groups' : List ℕ}
    → SweptTo text l.note l.index start_state items groups r items' groups' → (sweep_run text l).lent ≡ lent_after r.wants text l
unfolding gone_on
swept_lent text l a = ap (λ (x : Swept). x.lent) (sweep_in_two text l) ∙ rw a.builds
