-- One group recorded, in the form of the code's goals:
-- its records have room, and the state and the areas after it.
use Prim.Native.Nat.{ℕ, ◌+◌, ◌-◌, ◌*◌, ◌≤◌}
use native.Mathlib.Omega.{arith}
use mathlib.Core.Path.{◌≡◌, refl, sym, ◌∙◌, ap}
use mathlib.Core.List.{List, [], ◌∷◌, ◌++◌, flat_map, append-nil}
use mathlib.Core.Bool.{Bool, true, false, ◌&&◌, not, true≢false}
use lib.ListN.{length, take, drop, length-take, length-drop}
use lib.Dec.{leb}
use borrow.Author.Tests.{leb-true}
use mir.Syntax.{w64}
use mir.Val.{Fits}
use Rattle.base.specs.Pick.{pick}
use Rattle.base.specs.Lists.{written}
use Rattle.base.proofs.Bools.{and_left, and_right}
use Rattle.item.specs.Pieces.{items_of}
use Rattle.item.specs.Group.{good_items, group_of}
use Rattle.resolve.specs.Groups.{barred, group_accepted}
use Rattle.records.specs.ItemRecords.{records_of, records_length}
use Rattle.records.specs.Writing.{Writable}
use Rattle.records.proofs.RecordLaws.{records_length_lem}
use Rattle.definition_line.specs.Lines.{in_line}
use Rattle.sweep.specs.declared.group_records.SweepState.{SweepState}
use Rattle.standing.specs.GroupRecords.{group_record, group_records, item_count, item_records, placed_by}
use Rattle.standing.specs.Swept.{swept_from, inside_after, end_after}
use Rattle.sweep.specs.Areas.{written_at}
use Rattle.sweep.specs.Recording.{records_fit, Counted, ItemsRoom, Recordable, after_group, RecordedOne}
use Rattle.standing.proofs.ItemSizes.{items_size}
use Rattle.sweep.proofs.Areas.{written_length, written_part}
use Rattle.records.specs.Widths.{item_width, group_width}

-- the item records of a group, written from item record `n` on ---------------------------------------------------------------------

module _ (text : List ℕ) (at close n : ℕ) (items : List ℕ) (h : ItemsRoom text at close n items) where
  pub items_by : item_width * n ≤ length items
  items_by = let r = h.room in omega arith

  pub items_writable : Writable text at close (take (length items - item_width * n) (drop (item_width * n) items))
  unfolding group_accepted good_items records_length group_of
  items_writable = record {
    short = h.short;
    after = h.stands.after;
    inside = h.stands.inside;
    good = and_right (not (barred text close)) _ h.stands.good;
    room = let r = h.room in simp (length-take, length-drop) (omega arith);
  }

  pub items_back : {back : List ℕ} → back ≡ written (records_of (group_of text at close)) (take (length items - item_width * n) (drop (item_width * n) items))
      → take (item_width * n) items ++ (back ++ drop (length items - item_width * n) (drop (item_width * n) items))
      ≡ written_at (item_width * n) (records_of (group_of text at close)) items
  items_back {back} e = written_part (item_width * n) items (records_of (group_of text at close)) back items_by e

  room_for : item_width * n + length (records_of (group_of text at close)) ≤ length items
  unfolding records_length group_of
  room_for = let r = h.room in let l = records_length_lem (group_of text at close) in omega arith

  pub items_same : {back : List ℕ} → back ≡ written (records_of (group_of text at close)) (take (length items - item_width * n) (drop (item_width * n) items))
      → length (take (item_width * n) items ++ (back ++ drop (length items - item_width * n) (drop (item_width * n) items))) ≡ length items
  items_same e = rw (items_back e) (written_length (item_width * n) items (records_of (group_of text at close)) room_for)

pub ruleset item_laws = (items_by, items_back, items_same)

-- the numbers of a group's record fit ----------------------------------------------------------------------------------------------

module _ (text : List ℕ) (at close count : ℕ) (s : SweepState) (items groups : ℕ) (h : Recordable text at close count s items groups) where
  count_by : count * 3 ≤ close - at
  count_by =
      let k = h.stands.counts in
      let z = items_size text at close h.stands.after in
      omega arith

  pub items_few : s.items + count ≤ 65535
  items_few =
      let z = count_by in
      let i = h.counted.items_by in
      omega (arith, h.stands.after, h.stands.inside, h.short, h.later)

  pub items_word : Fits w64 (s.items + count)
  items_word = let z = items_few in omega arith

  pub first_few : s.items ≤ 65535
  first_few = let z = items_few in omega arith

  pub count_few : count ≤ 65535
  count_few = let z = items_few in omega arith

  -- the test: `b` says that the records fit
  module _ {b : Bool} (q : b ≡ (s.fits && records_fit (s.items + count) (s.groups + 1) items groups)) (t : b ≡ true) where
    fit : records_fit (s.items + count) (s.groups + 1) items groups ≡ true
    fit = and_right s.fits _ (sym q ∙ t)

    pub items_room : item_width * (s.items + length (items_of text at close)) ≤ items
    items_room =
        let k = h.stands.counts in
        let z : item_width * (s.items + count) ≤ items = leb-true _ _ (and_left _ _ fit) in
        omega arith

    pub groups_room : group_width * s.groups + 5 ≤ groups
    groups_room = let z : group_width * (s.groups + 1) ≤ groups = leb-true _ _ (and_right (leb (item_width * (s.items + count)) items) _ fit) in omega arith

pub ruleset room_laws = (items_few, items_word, first_few, count_few, items_room, groups_room)

-- the state and the areas then -----------------------------------------------------------------------------------------------------

-- the record of a group alone
record_alone : (text : List ℕ) (n at close count : ℕ) (before : Bool) (from : ℕ) → count ≡ length (items_of text at close)
    → group_records n (swept_from text before from (group_of text at close ∷ []))
    ≡ at ∷ (close + 1 - at) ∷ n ∷ count ∷ pick (in_line text before from (group_of text at close)) 0 1 ∷ []
unfolding group_records placed_by group_record group_of
record_alone text n at close count before from e = rw (← e)

module _ (text : List ℕ) (at close count : ℕ) (s : SweepState) (items groups : List ℕ)
    (h : Recordable text at close count s (length items) (length groups)) {inside b : Bool}
    (l : inside ≡ in_line text s.inside s.from (group_of text at close))
    (q : b ≡ (s.fits && records_fit (s.items + count) (s.groups + 1) (length items) (length groups))) where
  -- the state after it
  after_counted : Counted text (after_group s close count inside b) (length items) (length groups)
  after_counted =
      let z = count_by text at close count s (length items) (length groups) h in
      let i = h.counted.items_by in
      let g = h.counted.groups_by in
      record {
        at_by = omega (arith, h.stands.inside);
        items_by = omega (arith, h.stands.after, h.later);
        groups_by = omega (arith, h.stands.after, h.later);
        room = λ f. and_right s.fits _ (sym q ∙ f);
      }

  counts_items : s.items + count ≡ s.items + item_count (group_of text at close ∷ [])
  unfolding item_count group_of
  counts_items = let k = h.stands.counts in omega arith

  after_line : inside ≡ inside_after text s.inside s.from (group_of text at close ∷ [])
  unfolding inside_after
  after_line = l

  after_end : close + 1 ≡ end_after s.from (group_of text at close ∷ [])
  unfolding end_after group_of
  after_end = refl

  items_alone : item_records (group_of text at close ∷ []) ≡ records_of (group_of text at close)
  unfolding flat_map
  items_alone = append-nil (records_of (group_of text at close))

  records_count : length (records_of (group_of text at close)) ≡ item_width * length (items_of text at close)
  unfolding records_length group_of
  records_count = records_length_lem (group_of text at close)

  pub recorded_not : {r : SweepState} {items' groups' : List ℕ} → b ≡ false → items' ≡ items → groups' ≡ groups → r ≡ after_group s close count inside b
      → RecordedOne text at close s items groups r items' groups'
  recorded_not {r} {items'} {groups'} f i g e = rw e
      record {
        next = refl;
        no_build = refl;
        recorded = record {
          group_count = refl;
          items_counted = counts_items;
          line = after_line;
          end = after_end;
          fitted = q;
          item_area = ap length i;
          group_area = ap length g;
          items_recorded = λ z. absurd (true≢false (sym z ∙ f));
          groups_recorded = λ z. absurd (true≢false (sym z ∙ f));
        };
        counted = after_counted;
      }

  pub recorded_fits : {r : SweepState} {standing : ℕ} {items' groups' : List ℕ} → b ≡ true → standing ≡ pick inside 0 1
      → items' ≡ written_at (item_width * s.items) (records_of (group_of text at close)) items
      → groups' ≡ written_at (group_width * s.groups) (at ∷ (close + 1 - at) ∷ s.items ∷ count ∷ standing ∷ []) groups
      → r ≡ after_group s close count inside b
      → RecordedOne text at close s items groups r items' groups'
  recorded_fits {r} {standing} {items'} {groups'} t d i g e =
      let n = items_room text at close count s (length items) (length groups) h q t in
      let k = groups_room text at close count s (length items) (length groups) h q t in
      let c = records_count in
      rw e
      record {
        next = refl;
        no_build = refl;
        recorded = record {
          group_count = refl;
          items_counted = counts_items;
          line = after_line;
          end = after_end;
          fitted = q;
          item_area = ap length i ∙ written_length (item_width * s.items) items (records_of (group_of text at close)) (omega arith);
          group_area = ap length g ∙ written_length (group_width * s.groups) groups (at ∷ (close + 1 - at) ∷ s.items ∷ count ∷ standing ∷ []) k;
          items_recorded = λ z. i ∙ rw items_alone refl;
          groups_recorded = λ z. g ∙ rw (record_alone text s.items at close count s.inside s.from h.stands.counts, d, l) refl;
        };
        counted = after_counted;
      }
