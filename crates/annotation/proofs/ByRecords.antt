-- THEOREMS `ReferencesAgree` and `ContentAgrees`:
-- the references by the records, and the whole content.
use Prim.Native.Nat.{ℕ, ◌+◌, ◌-◌, ◌*◌, ◌≤◌, ◌<◌}
use native.Mathlib.Omega.{arith}
use mathlib.Core.Path.{◌≡◌, sym, ◌∙◌, ap}
use mathlib.Core.List.{List, [], map}
use mathlib.Core.Logic.{inl, inr}
use mathlib.Core.Bool.{Bool, false}
use lib.ListN.{length, get_or}
use lib.Dec.{ltb}
use borrow.Author.Tests.{eqb-true, eq-eqb, ltb-true}
use Rattle.base.specs.First.{first}
use Rattle.base.proofs.Searches.{first_holds, first_before}
use Rattle.base.proofs.Bools.{and_left, and_right}
use Rattle.base.proofs.Sames.{same_true}
use Rattle.item.specs.Group.{Group}
use Rattle.pool.specs.Layout.{has_pool}
use Rattle.definition.specs.Defs.{def_of}
use Rattle.standing.specs.GroupRecords.{item_count}
use Rattle.records.specs.Widths.{group_width, item_number}
use Rattle.standing.proofs.Swept.{placed_length}
use Rattle.definition.specs.Definitions.{definition_in}
use Rattle.records.specs.Records.{key_in}
use Rattle.records.specs.Fields.{item_field}
use Rattle.numbering.specs.Numbers.{Numbered}
use Rattle.uses.specs.Uses.{used_at}
use Rattle.order.specs.References.{has_number, first_with, source_key_in, rank_in, references_in, number_of_key, SourcesKnown}
use Rattle.order.proofs.Insertions.{order_length, order_same}
use Rattle.sweep.proofs.Laws.{group_records_length}
use Rattle.numbering.proofs.ByLines.{definition_same}
use Rattle.annotation.specs.Sources.{Source, place_of, number_of, source_key}
use Rattle.annotation.specs.Order.{rank_of, references_of}
use Rattle.annotation.specs.Content.{placed_from, placed_of, tally_of, content_of}
use Rattle.annotation.specs.Steps.{Fits, swept_items, swept_groups, numbered_from, NumberedAs, ReferencesAgree, ContentAgrees}
use Rattle.annotation.proofs.Numbers.{numbers_are_places}
use Rattle.annotation.proofs.Places.{place_key}
use Rattle.annotation.proofs.Defined.{source_defined}
use Rattle.annotation.proofs.Joins.{Known, Joined}
use Rattle.annotation.proofs.Passes.{Agrees, definitions_agree, tally_agrees, numbers_agree}

-- a source's first use is in a record with its number, so that record has its key
module _ (text items : List ℕ) (m : ℕ) (pooled : Bool) (sources : List Source) (d : Joined text items pooled m sources) where
  some_record : (k : ℕ) → number_of (source_key sources k) sources ≡ k → k ≤ length sources → first_with items m k < m
  unfolding number_of first_with has_number
  some_record k e l = go (d.known (source_key sources k))
    where
      go : Known text items pooled m sources (source_key sources k) → first_with items m k < m
      go (inl c) =
          let b = c.1.at.below in
          let h = first_before (has_number items k) m 0 c.0 (omega arith) (eq-eqb (item_field items c.0 item_number) k (c.1.number ∙ e)) in
          omega arith
      go (inr u) = absurd (let z = u.new in omega arith)

  key_of_source : (k : ℕ) → number_of (source_key sources k) sources ≡ k → 1 ≤ k → k ≤ length sources
      → source_key_in text items m k ≡ source_key sources k
  unfolding source_key_in first_with has_number source_key
  key_of_source k e h l =
      let j = first_with items m k in
      let b = some_record k e l in
      let q : item_field items j item_number ≡ k = eqb-true (item_field items j item_number) k (first_holds (has_number items k) m 0 (omega arith)) in
      let r = d.numbers j b (omega arith) in
      let p : place_of (key_in text items j) sources ≡ k - 1 = omega (arith, r.0) in
      sym (place_key (key_in text items j) sources r.1) ∙ ap (λ (i : ℕ). get_or (map (λ (s : Source). s.key) sources) i []) p

  -- and the first record with its key has its number
  number_of_source : (k : ℕ) → number_of (source_key sources k) sources ≡ k → k ≤ length sources
      → number_of_key text items m (source_key sources k) ≡ k
  unfolding number_of number_of_key
  number_of_source k e l = go (d.known (source_key sources k))
    where
      its : ℕ → Bool
      its = used_at text items (source_key sources k)

      go : Known text items pooled m sources (source_key sources k) → item_field items (first its m 0) item_number ≡ k
      go (inl c) =
          let b = c.1.at.below in
          let h = first_before its m 0 c.0 (omega arith) c.1.at.holds in
          let t = first_holds its m 0 (omega arith) in
          let q = ltb-true 0 (item_field items (first its m 0) item_number) (and_left (ltb 0 (item_field items (first its m 0) item_number)) _ t) in
          let r = d.numbers (first its m 0) (omega arith) q in
          let s = same_true (key_in text items (first its m 0)) (source_key sources k) (and_right (ltb 0 (item_field items (first its m 0) item_number)) _ t) in
          r.0 ∙ ap (λ (x : List ℕ). place_of x sources + 1) s ∙ e
      go (inr u) = absurd (let z = u.new in omega arith)

module _ (text : List ℕ) (mode : ℕ) (all : List Group) (pool rest_items rest_groups : List ℕ) (f : Fits text all) where
  abbrev N : Numbered
  N = numbered_from text mode all pool rest_items rest_groups

  abbrev sources : List Source
  sources = (tally_of text mode all pool).sources

  ends : Agrees text (has_pool pool) (swept_groups text all rest_groups) (swept_items all rest_items) (tally_of text mode all pool) N (item_count all) rest_items
  ends = tally_agrees text mode all pool rest_items rest_groups f

  -- definitions by the records as they are then
  defined_then : (key : List ℕ) → definition_in text N.groups N.items (length all) pool key ≡ def_of text all pool key
  defined_then key =
      definition_same text N.groups (swept_groups text all rest_groups) N.items (swept_items all rest_items) ends.same_groups ends.same_items
      (length all) pool key
      ∙ definitions_agree text all pool rest_items rest_groups key f

  key_then : (k : ℕ) → 1 ≤ k → k ≤ length sources → source_key_in text N.items (item_count all) k ≡ source_key sources k
  key_then k h l =
      key_of_source text N.items (item_count all) (has_pool pool) sources ends.joined k (numbers_are_places text mode all pool k h l) h l

  rank_agrees : (k : ℕ) → 1 ≤ k → k ≤ length sources
      → rank_in text pool N.groups N.items (length all) (item_count all) k ≡ rank_of text all pool (source_key sources k)
  unfolding rank_in rank_of
  rank_agrees k h l = rw (key_then k h l, defined_then (source_key sources k))

  pub known_sources : SourcesKnown text pool N.groups N.items (length all) (item_count all) N.sources
  known_sources = record {
    defined = λ k h l.
        rw (key_then k h (omega (arith, ends.sources)), defined_then (source_key sources k)) (source_defined text mode all pool k h (omega (arith, ends.sources)));
    numbered = λ k h l.
        rw (key_then k h (omega (arith, ends.sources)))
        (number_of_source text N.items (item_count all) (has_pool pool) sources ends.joined k
        (numbers_are_places text mode all pool k h (omega (arith, ends.sources))) (omega (arith, ends.sources)));
  }

pub references_agree : ReferencesAgree
unfolding references_in references_of
references_agree text mode all pool rest_items rest_groups f =
    rw (ends text mode all pool rest_items rest_groups f).sources
    (order_same mode _ _ (length (tally_of text mode all pool).sources) (rank_agrees text mode all pool rest_items rest_groups f))

-- how many records there are -----------------------------------------------------------------------------------------------------------

pub references_length : (text : List ℕ) (mode : ℕ) (groups : List Group) (pool : List ℕ) (ss : List Source)
    → length (references_of text mode groups pool ss) ≡ length ss
unfolding references_of
references_length text mode groups pool ss = order_length mode _ (length ss)

pub content_agrees : ContentAgrees
unfolding content_of placed_of
content_agrees text mode all pool rest_items rest_groups f = record {
  items = n.items;
  groups = n.groups;
  labels = n.labels;
  references = references_agree text mode all pool rest_items rest_groups f;
  items_counted = (tally_agrees text mode all pool rest_items rest_groups f).count;
  group_count = group_records_length 0 (placed_from text all pool false 0 all) ∙ ap (λ (m : ℕ). group_width * m) (placed_length _ text false 0 all);
  source_count = references_length text mode all pool (tally_of text mode all pool).sources ∙ sym n.sources;
}
  where
    n : NumberedAs text mode all pool rest_items rest_groups
    n = numbers_agree text mode all pool rest_items rest_groups f
