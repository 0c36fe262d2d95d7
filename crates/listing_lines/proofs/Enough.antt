-- THEOREM `TextRefusalsOnly`: the areas of the listing have room for what is said
-- of any text of at most 4,096 bytes.
use Prim.Native.Nat.{ℕ, zero, suc, ◌+◌, ◌*◌, ◌/◌, ◌≤◌, ◌<◌}
use native.Mathlib.Omega.{arith}
use mathlib.Core.Path.{◌≡◌, refl, sym, ap}
use mathlib.Core.List.{List, [], ◌∷◌, ◌++◌, map, flat_map, flatten}
use mathlib.Core.Bool.{Bool, true, false}
use lib.ListN.{length, length-append, length-replicate}
use lib.Dec.{eqb, leb, ltb}
use borrow.Author.Tests.{eqb-true, leb-true, le-leb, le-ltb}
use Rattle.base.specs.Pick.{pick}
use Rattle.base.specs.Lists.{same}
use Rattle.utf8.specs.Refusal.{text_refusal}
use Rattle.item.specs.declared.Item.{Item}
use Rattle.item.specs.Group.{Group}
use Rattle.resolve.specs.Groups.{GroupAnswer, Found, NoGroup}
use Rattle.lookup.specs.Refusals.{too_few}
use Rattle.pool.specs.Layout.{well_formed}
use Rattle.decimal.specs.Decimal.{count_in, decimal}
use Rattle.decimal.proofs.Laws.{decimal_length}
use Rattle.definition_line.specs.Lines.{group_end, key_of}
use Rattle.standing.specs.GroupRecords.{Placed, item_count}
use Rattle.standing.proofs.Swept.{groups_of, placed_groups}
use Rattle.sweep.specs.Sweep.{found_groups, next_at, found_at, sweep_in, sweep_of}
use Rattle.sweep.proofs.Sizes.{size_enough}
use Rattle.label.specs.Labels.{label_by, label_text}
use Rattle.annotation.specs.Refusal.{annotate_refusal}
use Rattle.annotation.specs.Sources.{Source, place_of, number_of}
use Rattle.annotation.specs.Content.{Areas, placed_of, label_for, tally_of, content_of}
use Rattle.annotation.specs.Call.{annotate_refused, room_for, annotate_gives, answer_of, annotate_plain}
use Rattle.annotation.proofs.Counts.{sources_by}
use Rattle.annotation.proofs.ByRecords.{references_length}
use Rattle.annotation.specs.Items.{each_item}
use Rattle.histories.specs.Said.{item_labels}
use Rattle.histories.proofs.Demand2.{demand_2}
use Rattle.listing_lines.specs.Listing.{listing_areas, listing_answer, TextRefusalsOnly}
use Rattle.listing_lines.proofs.Answers.{content_groups}
use Rattle.records.specs.Widths.{item_width, group_width}

-- groups: the sweep finds one at a byte at most
groups_by : (text : List ℕ) (n at : ℕ) → length (sweep_in n text at) ≤ n
unfolding sweep_in
groups_by text zero at = omega arith
groups_by text (suc n) at = go (ltb at (length text)) (found_at text at) (λ k. groups_by text n k)
  where
    go : (b : Bool) (f : GroupAnswer) → ((k : ℕ) → length (sweep_in n text k) ≤ n) → length (pick b (found_groups f ++ sweep_in n text (next_at at f)) []) ≤ suc n
    go true (Found g) h = omega (arith, h (group_end g))
    go true NoGroup h = omega (arith, h (at + 1))
    go false f h = omega arith

-- labels: a number below 100,000 has at most five digits
digits_one : (f n : ℕ) → n < 10 → count_in f n ≤ 1
unfolding count_in
digits_one zero n h = omega arith
digits_one (suc f) n h = go (leb 10 n) refl
  where
    go : (b : Bool) → leb 10 n ≡ b → pick b (suc (count_in f (n / 10))) 1 ≤ 1
    go true q = absurd (omega (arith, leb-true 10 n q))
    go false q = omega arith

digits_more : (f n k : ℕ) → count_in f (n / 10) ≤ k → count_in (suc f) n ≤ suc k
unfolding count_in
digits_more f n k h = go (leb 10 n)
  where
    go : (b : Bool) → pick b (suc (count_in f (n / 10))) 1 ≤ suc k
    go true = omega (arith, h)
    go false = omega arith

digits_five : (n : ℕ) → n < 100000 → length (decimal n) ≤ 5
digits_five n h =
    let one = digits_one 15 (n / 10 / 10 / 10 / 10) (omega arith) in
    rw decimal_length
    (digits_more 18 n 4 (digits_more 17 (n / 10) 3 (digits_more 16 (n / 10 / 10) 2 (digits_more 15 (n / 10 / 10 / 10) 1 one))))

place_most : (key : List ℕ) (ss : List Source) → place_of key ss ≤ length ss
unfolding place_of
place_most key [] = omega arith
place_most key (s ∷ ss) = go (same s.key key) (place_most key ss)
  where
    go : (b : Bool) → place_of key ss ≤ length ss → pick b 0 (suc (place_of key ss)) ≤ suc (length ss)
    go true h = omega arith
    go false h = omega arith

module _ (text : List ℕ) (all : List Group) (pool : List ℕ) (sources : List Source) (few : length sources ≤ 4096) where
  label_by_lem : (b : Bool) (i : Item) → length (pick b (label_for text 0 all pool sources i) []) ≤ 5
  unfolding label_for label_text label_by number_of
  label_by_lem true i = digits_five (place_of (key_of text i) sources + 1) (omega (arith, place_most (key_of text i) sources, few))
  label_by_lem false i = omega arith

  items_by : (b : Bool) (is : List Item) (more : List (List ℕ))
      → length (flatten (map (λ (i : Item). pick b (label_for text 0 all pool sources i) []) is ++ more)) ≤ 5 * length is + length (flatten more)
  unfolding flatten
  items_by b [] more = omega arith
  items_by b (i ∷ is) more = rw length-append (omega (arith, items_by b is more, label_by_lem b i))

  labels_by : (ps : List Placed) → length (flatten (item_labels text 0 all pool sources ps)) ≤ 5 * item_count (groups_of ps)
  unfolding each_item flat_map flatten item_count
  labels_by [] = omega arith
  labels_by (p ∷ ps) =
      omega (
        arith,
        items_by (eqb p.standing 2) p.group.items (item_labels text 0 all pool sources ps),
        labels_by ps,
      )

module _ (text : List ℕ) (h : length text ≤ 4096) where
  abbrev all : List Group
  all = sweep_of text

  abbrev content : Areas
  content = content_of text 0 all []

  enough_items : length content.items ≤ item_width * length text
  enough_items = omega (arith, ((demand_2 text).1 0 []).count, size_enough text)

  enough_groups : length content.groups ≤ group_width * length text
  unfolding sweep_of
  enough_groups = omega (arith, content_groups text 0 all [], groups_by text (length text) 0)

  enough_references : length content.references ≤ length text
  unfolding content_of
  enough_references =
      omega (arith, references_length text 0 all [] (tally_of text 0 all []).sources, sources_by text 0 all [], size_enough text)

  enough_labels : length content.labels ≤ 5 * length text
  unfolding placed_of
  enough_labels =
      let few : length (tally_of text 0 all []).sources ≤ 4096 = omega (arith, sources_by text 0 all [], size_enough text, h) in
      let g : item_count (groups_of (placed_of text all [])) ≡ item_count all = ap item_count (placed_groups _ text false 0 all) in
      omega
      (arith, ap length ((demand_2 text).1 0 []).labels, labels_by text all [] (tally_of text 0 all []).sources few (placed_of text all []), size_enough text)

  room : room_for content (listing_areas (length text)) ≡ true
  unfolding room_for listing_areas
  room =
      rw (
        length-replicate {A = ℕ} (item_width * length text) 0,
        length-replicate {A = ℕ} (group_width * length text) 0,
        length-replicate {A = ℕ} (length text) 0,
        le-leb _ _ enough_items,
        le-leb _ _ enough_groups,
        le-leb _ _ enough_references,
        le-leb _ _ enough_labels,
        le-leb (length content.labels) 65535 (omega (arith, enough_labels, h)),
      )
      refl

  -- modes, pool and index are as they must be
  refusal_is : annotate_refusal text 0 [] (length text) (length text) ≡ text_refusal text
  unfolding annotate_refusal text_refusal too_few well_formed
  refusal_is = rw (le-ltb (length text) (length text) (omega arith)) refl

  number_is : (listing_answer text).number ≡ text_refusal text
  unfolding listing_answer annotate_plain answer_of annotate_gives
  number_is = rw (refusal_is, room) (go (eqb (text_refusal text) 0) refl)
    where
      go : (b : Bool) → eqb (text_refusal text) 0 ≡ b
          → (pick b (annotate_gives all content (listing_areas (length text))) (annotate_refused (text_refusal text) (listing_areas (length text)))).number
          ≡ text_refusal text
      go true q = sym (eqb-true (text_refusal text) 0 q)
      go false q = refl

pub text_refusals_only : TextRefusalsOnly
text_refusals_only text h = number_is text h
