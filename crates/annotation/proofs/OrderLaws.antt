-- The numbers and the references after the sweep,
-- in the form of the code's goals.
use Prim.Native.Nat.{ℕ, ◌≤◌, ◌<◌, min}
use mathlib.Core.Path.{◌≡◌, refl, sym, ◌∙◌}
use mathlib.Core.List.{List}
use mathlib.Core.Bool.{true, false}
use lib.ListN.{length}
use borrow.Author.Tests.{le-leb, lt-leb}
use Rattle.base.specs.Lists.{written}
use Rattle.numbering.specs.Numbers.{Numbered, number_all}
use Rattle.order.specs.Order.{reference_order}
use Rattle.order.specs.References.{references_in, SourcesKnown}
use Rattle.numbering.proofs.ModeLaws.{zero_same, all_same}
use Rattle.numbering.specs.declared.Numbering.{Numbering}
use Rattle.numbering.specs.Progress.{room_of, Agrees, Holds}
use Rattle.std.specs.Prelude.{Some, None, Result, Ok}
use Rattle.base.specs.declared.refusal.Refusal.{Refusal}
use Rattle.annotation.specs.declared.answer.Counts.{Counts}
use Rattle.annotation.specs.Values.{counts}
use Rattle.annotation.specs.Ordering.{room_then, Orderable, Ordered}
use Rattle.annotation.specs.Halves.{Zeroed}

-- from what numbering the records gave
module _ (text : List ℕ) (mode : ℕ) (pool : List ℕ) (n m : ℕ) (items groups references labels : List ℕ) where
  abbrev made : Numbered
  made = number_all text mode pool n items groups

  module _ {items' groups' labels' : List ℕ} where
    -- the labels fit
    module _ {k : Numbering} (h : Holds made (room_of labels) labels (Some k) items' groups' labels') where
      agreed : Agrees made labels k items' groups' labels'
      agreed = h.agrees

      -- and the references have room
      has_room : k.sources ≤ length references → room_then made references labels ≡ true
      unfolding room_then
      has_room l = rw (sym h.fits, ← agreed.sources) (le-leb k.sources (length references) l)

      pub ordered_room : {references' : List ℕ} → k.sources ≤ length references
          → references' ≡ written (references_in text pool groups' items' n m mode k.sources) references
          → Ordered text mode pool n m items groups references labels (Ok (counts n m k.sources k.label_bytes)) items' groups' references'
          labels'
      ordered_room l o =
          let z = has_room l in
          record {
            answer = rw (z, agreed.sources, agreed.label_bytes);
            item_area = agreed.item_area ∙ rw z;
            group_area = agreed.group_area ∙ rw z;
            reference_area = o ∙ rw (z, agreed.item_area, agreed.group_area, agreed.sources);
            label_area = agreed.label_area ∙ rw z;
          }

      -- or they have not
      no_references : length references < k.sources → room_then made references labels ≡ false
      unfolding room_then
      no_references l = rw (sym h.fits, ← agreed.sources) (lt-leb k.sources (length references) l)

    -- the labels do not fit
    no_labels : Holds made (room_of labels) labels None items' groups' labels' → room_then made references labels ≡ false
    unfolding room_then
    no_labels h = rw (sym h.fits)

    module _ {r : Result Counts Refusal} {items'' groups'' references'' labels'' : List ℕ}
        (o : Zeroed items' groups' references labels' r items'' groups'' references'' labels'')
        (i : length items' ≡ length items) (g : length groups' ≡ length groups) (l : length labels' ≡ length labels) where
      few : room_then made references labels ≡ false → Ordered text mode pool n m items groups references labels r items'' groups'' references'' labels''
      few z = record {
        answer = o.refused ∙ rw z;
        item_area = o.item_area ∙ rw (z, i);
        group_area = o.group_area ∙ rw (z, g);
        reference_area = o.reference_area ∙ rw z;
        label_area = o.label_area ∙ rw (z, l);
      }

      pub few_labels : Holds made (room_of labels) labels None items' groups' labels'
          → Ordered text mode pool n m items groups references labels r items'' groups'' references'' labels''
      few_labels h = few (no_labels h)

      pub few_references : {k : Numbering} → Holds made (room_of labels) labels (Some k) items' groups' labels' → length references < k.sources
          → Ordered text mode pool n m items groups references labels r items'' groups'' references'' labels''
      few_references h f = few (no_references h f)

-- the sources are few, and known in the areas as they are then
module _ (text : List ℕ) (mode : ℕ) (pool : List ℕ) (n m : ℕ) (items groups labels : List ℕ) (k : Numbering) (items' groups' labels' : List ℕ)
    (h : Holds (number_all text mode pool n items groups) (room_of labels) labels (Some k) items' groups' labels')
    (o : Orderable text pool n m (number_all text mode pool n items groups)) where
  all_agreed : Agrees (number_all text mode pool n items groups) labels k items' groups' labels'
  all_agreed = h.agrees

  pub sources_few : k.sources ≤ 65535
  sources_few = rw all_agreed.sources o.few

  pub sources_are : SourcesKnown text pool groups' items' n m k.sources
  sources_are = rw (all_agreed.sources, all_agreed.item_area, all_agreed.group_area) o.known

-- at a number that is clamped to a mode's
module _ (text : List ℕ) (mode : ℕ) (pool : List ℕ) (n m : ℕ) (items groups references labels : List ℕ) (r : Result Counts Refusal)
    (items' groups' references' labels' : List ℕ) where
  references_same : (t : Numbered) → references_in text pool t.groups t.items n m (min mode 1) t.sources ≡ references_in text pool t.groups t.items n m mode t.sources
  unfolding references_in reference_order
  references_same t = rw (zero_same mode) refl

  pub ordered_same : Ordered text (min mode 1) pool n m items groups references labels r items' groups' references' labels'
      → Ordered text mode pool n m items groups references labels r items' groups' references' labels'
  ordered_same o = rw (all_same text mode pool n items groups, references_same (number_all text mode pool n items groups)) at o

pub ruleset order_laws = (sources_few, sources_are, ordered_room, few_labels, few_references)
