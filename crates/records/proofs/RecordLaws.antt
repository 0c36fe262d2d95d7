-- Item records, in the form of the goals of the code that writes them:
-- how long they are, that places fit, and the walk over the pieces of a group.
use Prim.Native.Nat.{ℕ, suc, ◌+◌, ◌-◌, ◌*◌, ◌≤◌}
use native.Mathlib.Omega.{arith}
use mathlib.Core.Path.{◌≡◌, refl, sym, ◌∙◌, ap}
use mathlib.Core.List.{List, [], ◌∷◌, ◌++◌, flat_map}
use mathlib.Core.Bool.{◌&&◌, true, true≢false}
use lib.ListN.{length, take, drop, length-append, take-append-drop}
use Rattle.std.specs.Prelude.{Option, Some, None}
use Rattle.base.specs.Lists.{written}
use Rattle.base.specs.declared.Span.{Span}
use Rattle.base.proofs.Areas.{rest_room, back_length, back_next}
use Rattle.item.specs.declared.Item.{Item}
use Rattle.item.specs.Items.{item_of, is_good}
use Rattle.item.specs.Pieces.{Stretch, pieces_of, parsed, all_good, kept, items_in, items_of}
use Rattle.item.specs.Facts.{parts_of}
use Rattle.item.proofs.Bounds.{item_within}
use Rattle.item.proofs.Walk.{EndsBy, pieces_end}
use Rattle.base.specs.Sorted.{Each}
use Rattle.base.proofs.Bools.{and_left, and_right}
use Rattle.item.specs.Group.{good_items, Group, group_of}
use Rattle.records.specs.ItemRecords.{item_record, unnumbered_record, records_in, records_of, records_length}
use Rattle.records.specs.Writing.{piece_record, Narrow, NarrowItem, Writable}
use Rattle.records.specs.Widths.{item_width}

-- how many numbers a record has ----------------------------------------------------------------------------------------------------------

pub record_length : (it : Item) → length (unnumbered_record it) ≡ item_width
unfolding unnumbered_record item_record
record_length it = refl

records_in_length : (its : List Item) → length (records_in its) ≡ item_width * length its
unfolding flat_map
records_in_length [] = refl
records_in_length (it ∷ its) = simp (length-append, record_length, records_in_length its) (omega arith)

pub records_length_lem : (g : Group) → length (records_of g) ≡ records_length g
unfolding records_of records_length
records_length_lem g = records_in_length g.items

-- an item's places fit a record ----------------------------------------------------------------------------------------------------

narrow_within : {p : Span} {e : ℕ} → e ≤ 65535 → p.at + p.len ≤ e → Narrow p
narrow_within h k = (omega arith, omega arith)

module _ (s : List ℕ) (a e : ℕ) {it : Item} (q : Some it ≡ item_of s a e) where
  pub item_narrow : e ≤ length s → length s ≤ 65535 → NarrowItem it
  unfolding parts_of
  item_narrow h k =
      let l : e ≤ 65535 = omega arith in
      let w = item_within s a e it (sym q) in
      record {
        prefix = narrow_within l w.0;
        key = narrow_within l w.1.0;
        locator = narrow_within l w.1.1.0;
        parts = record { value = narrow_within l w.1.1.1.0; suffix = narrow_within l w.1.1.1.1.0 };
      }

  pub piece_good : (row : List ℕ) {x : List ℕ} → x ≡ unnumbered_record it → x ++ drop item_width row ≡ written (piece_record (item_of s a e)) row
  unfolding piece_record written
  piece_good row o = rw (← q, o, record_length it) refl

pub piece_bad : (s : List ℕ) (a e : ℕ) (row : List ℕ) → None ≡ item_of s a e → row ≡ written (piece_record (item_of s a e)) row
unfolding piece_record written
piece_bad s a e row q = rw (← q) refl

pub ruleset piece_record_laws = (item_narrow, piece_good, piece_bad)

-- all records of a group -----------------------------------------------------------------------------------------------------------

-- a piece and those after it
kept_records : (r : Option Item) (rest : List Item) → records_in (kept r rest) ≡ piece_record r ++ records_in rest
unfolding flat_map piece_record
kept_records (Some it) rest = refl
kept_records None rest = refl

kept_length : (r : Option Item) (rest : List Item) → is_good r ≡ true → length (kept r rest) ≡ suc (length rest)
kept_length (Some it) rest g = refl
kept_length None rest g = absurd (true≢false (sym g))

piece_length : (r : Option Item) → is_good r ≡ true → length (piece_record r) ≡ item_width
unfolding piece_record
piece_length (Some it) g = record_length it
piece_length None g = absurd (true≢false (sym g))

-- The loop: `left` are the pieces that are left, and their records belong to `items` from `n` on.
pub record Writing (s : List ℕ) (p c : ℕ) (items₀ : List ℕ) (items : List ℕ) (left : List Stretch) (n : ℕ) : Type 0 where
  pub long : length items ≡ length items₀
  pub ends : Each (EndsBy s (length s)) left
  pub good : all_good s left ≡ true
  pub room : n + item_width * length (items_in s left) ≤ length items
  pub gives : written (records_of (group_of s p c)) items₀ ≡ take n items ++ written (records_in (items_in s left)) (drop n items)

pub writing_start : (s : List ℕ) (p c : ℕ) (items : List ℕ) {left : List Stretch} → Writable s p c items → left ≡ pieces_of s p c
    → Writing s p c items items left 0
unfolding good_items records_of group_of items_of records_length
writing_start s p c items w f = record {
  long = refl;
  ends = rw f (pieces_end s p c w.after w.inside);
  good = rw f w.good;
  room = rw f (omega (arith, w.room));
  gives = rw f;
}

module _ {s : List ℕ} {p c : ℕ} {items₀ : List ℕ} {items : List ℕ} {x : Stretch} {left rest : List Stretch} {n : ℕ}
    (w : Writing s p c items₀ items left n) (d : left ≡ x ∷ rest) where
  all : (is_good (item_of s x.from x.to) && all_good s rest) ≡ true
  unfolding all_good parsed
  all = rw d at w.good

  piece_good_is : is_good (item_of s x.from x.to) ≡ true
  piece_good_is = and_left _ _ all

  piece_record_length : length (piece_record (item_of s x.from x.to)) ≡ item_width
  piece_record_length = piece_length (item_of s x.from x.to) piece_good_is

  these : items_in s left ≡ kept (item_of s x.from x.to) (items_in s rest)
  unfolding items_in parsed
  these = rw d refl

  more_room : n + item_width + item_width * length (items_in s rest) ≤ length items
  more_room =
      let e = ap length these in
      let k = kept_length (item_of s x.from x.to) (items_in s rest) piece_good_is in
      omega (arith, w.room)

  pub next_inside : x.to ≤ length s
  next_inside = (rw d at w.ends).0

  pub next_room : item_width ≤ length (take (length items - n) (drop n items))
  next_room = rest_room items n item_width (omega (arith, more_room))

  -- the rest of the area came back with the record of the piece
  pub writing_next : {o : List ℕ} → o ≡ written (piece_record (item_of s x.from x.to)) (take (length items - n) (drop n items))
      → Writing s p c items₀ (take n items ++ (o ++ drop (length items - n) (drop n items))) rest (n + item_width)
  writing_next {o} q =
      let r = piece_record (item_of s x.from x.to) in
      let its = items_in s rest in
      let l = piece_record_length in
      let k = more_room in
      let m : n + length r ≤ length items = omega arith in
      let e = back_length n items r m q in
      let g = rw (these, kept_records (item_of s x.from x.to) its) at w.gives in
      record {
        long = e ∙ w.long;
        ends = (rw d at w.ends).1;
        good = and_right (is_good (item_of s x.from x.to)) _ all;
        room = rw e k;
        gives = rw l at (back_next n items r m q (records_in its) g);
      }

-- no piece is left
pub writing_end : {s : List ℕ} {p c : ℕ} {items₀ : List ℕ} {items : List ℕ} {left : List Stretch} {n : ℕ} → Writing s p c items₀ items left n
    → left ≡ [] → items ≡ written (records_of (group_of s p c)) items₀
unfolding items_in flat_map written
writing_end {items = items} {n = n} w e = sym (w.gives ∙ rw e (take-append-drop n items))
