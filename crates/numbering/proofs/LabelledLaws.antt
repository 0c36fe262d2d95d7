-- The labels so far: none before the first group, and one more
-- after each item that is numbered, in the form of the goals.
use Prim.Native.Nat.{ℕ, zero, suc, ◌+◌, ◌-◌, ◌*◌, ◌≤◌, ◌<◌}
use native.Mathlib.Omega.{arith}
use mathlib.Core.Path.{◌≡◌, refl, sym, ◌∙◌}
use mathlib.Core.List.{List, [], ◌∷◌, ◌++◌, flat_map, append_assoc}
use mathlib.Core.Bool.{Bool, true, false}
use lib.ListN.{length, set, length-append, length-set}
use lib.Dec.{eqb, ltb}
use borrow.Author.Tests.{ltb-true, ltb-false, eqb-true, eqb-false}
use Rattle.item.specs.declared.Item.{Item}
use Rattle.item.specs.Group.{Group}
use Rattle.records.specs.ItemRecords.{item_record, unnumbered_record, records_in, records_of, records_length}
use Rattle.records.specs.Widths.{item_width, item_number, item_label, item_label_length, group_width, group_standing}
use Rattle.standing.specs.GroupRecords.{item_count, item_records}
use Rattle.records.specs.Records.{suppressed_in}
use Rattle.records.specs.Fields.{field_at, item_field}
use Rattle.label.specs.Areas.{fitted_at}
use Rattle.label.proofs.AreaLaws.{fitted_at_kept, fitted_at_there}
use Rattle.uses.specs.Uses.{set_last}
use Rattle.uses.proofs.Fields.{item_skip, SameItems, SameGroups, set_last_same, set_last_other, set_last_number, set_last_at, set_last_len, set_standing_same}
use Rattle.numbering.specs.declared.Numbering.{Numbering}
use Rattle.numbering.specs.Numbers.{record_label}
use Rattle.numbering.specs.Progress.{room_of, numbering_of, LabelStands, Labelled, Unnumbered}
use Rattle.records.proofs.RecordLaws.{records_length_lem}
use Rattle.numbering.proofs.ByLines.{key_same, definition_same}

-- the records that a sweep leaves: none of them has a number ---------------------------------------------------------------------------

records_unnumbered : (is : List Item) (after : List ℕ) (j : ℕ) → j < length is → item_field (records_in is ++ after) j item_number ≡ 0
unfolding flat_map unnumbered_record item_record field_at
records_unnumbered [] after j l = absurd (omega arith)
records_unnumbered (i ∷ is) after zero l = refl
records_unnumbered (i ∷ is) after (suc j) l =
    let e : suc j ≡ 1 + j = omega arith in
    rw (e, append_assoc (unnumbered_record i) (records_in is) after)
    (item_skip (unnumbered_record i) (records_in is ++ after) 1 j 12 refl ∙ records_unnumbered is after j (omega arith))

swept_numbers : (gs : List Group) (after : List ℕ) (j : ℕ) → j < item_count gs → item_field (item_records gs ++ after) j item_number ≡ 0
unfolding flat_map item_count records_of records_length
swept_numbers [] after j l = absurd (omega arith)
swept_numbers (g ∷ gs) after j l =
    rw (append_assoc (records_of g) (item_records gs) after) (go (ltb j n) refl (swept_numbers gs after (j - n)))
  where
    n : ℕ
    n = length g.items

    go : (t : Bool) → ltb j n ≡ t → (j - n < item_count gs → item_field (item_records gs ++ after) (j - n) item_number ≡ 0)
        → item_field (records_of g ++ (item_records gs ++ after)) j item_number ≡ 0
    go true p rec = records_unnumbered g.items (item_records gs ++ after) j (ltb-true j n p)
    go false p rec =
        let q = ltb-false j n p in
        let e : n + (j - n) ≡ j = omega arith in
        rw e at (item_skip (records_of g) (item_records gs ++ after) n (j - n) 12 (records_length_lem g) ∙ rec (omega arith))

swept_room : (gs : List Group) (after : List ℕ) → item_width * item_count gs ≤ length (item_records gs ++ after)
unfolding flat_map item_count records_of records_length
swept_room [] after = omega arith
swept_room (g ∷ gs) after =
    rw (append_assoc (records_of g) (item_records gs) after, length-append)
    (omega (arith, records_length_lem g, swept_room gs after))

pub swept_unnumbered : (gs : List Group) (after : List ℕ) → Unnumbered (item_count gs) (item_records gs ++ after)
swept_unnumbered gs after = record { room = swept_room gs after; none = swept_numbers gs after }

-- the labels so far --------------------------------------------------------------------------------------------------------------------

module _ (text : List ℕ) (mode : ℕ) (pool : List ℕ) (n m : ℕ) where
  -- a label depends on no other number, use, label or standing
  label_same : (groups others items other_items : List ℕ) (j number : ℕ) → SameGroups groups others → SameItems items other_items
      → record_label text mode pool groups items n j number ≡ record_label text mode pool others other_items n j number
  unfolding suppressed_in
  label_same groups others items other_items j number h i =
      rw (i j 11 (omega arith), key_same text items other_items j i, definition_same text groups others items other_items h i n pool _) refl

  -- no labels yet
  pub labelled_start : (s : Numbering) (items groups labels : List ℕ) → Unnumbered m items → Labelled text mode pool n m s items groups labels
  labelled_start s items groups labels u = record { room = u.room; stands = λ j l h. absurd (let z = u.none j l in omega arith) }

  module _ {s : Numbering} {items groups labels : List ℕ} (b : Labelled text mode pool n m s items groups labels) where
    -- the standing of a group moves none
    pub labelled_stood : (g standing : ℕ) {groups' : List ℕ} → groups' ≡ set groups (group_width * g + group_standing) standing
        → Labelled text mode pool n m s items groups' labels
    labelled_stood g standing e = record {
      room = b.room;
      stands = λ j l h.
          let old = b.stands j l h in
          record {
            inside = old.inside;
            is = old.is ∙ sym (rw e (label_same _ groups items items j _ (set_standing_same groups g standing) (λ k c l. refl)));
          };
    }

    -- the label of record `k` is one more
    module _ (k number use_as sources : ℕ) {len : ℕ} {items' labels' : List ℕ}
        (h : s.label_bytes ≤ room_of labels) (q : len ≤ room_of labels - s.label_bytes)
        (e : len ≡ length (record_label text mode pool groups items n k number))
        (w : labels' ≡ fitted_at (record_label text mode pool groups items n k number) s.label_bytes labels)
        (i : items' ≡ set_last items k number use_as s.label_bytes len) where
      abbrev Stands : ℕ → Type 0
      Stands j =
          LabelStands (record_label text mode pool groups items' n j (item_field items' j item_number)) (item_field items' j item_label) (item_field items' j item_label_length)
          (s.label_bytes + len) labels'

      same_label_lem : (j x : ℕ) → record_label text mode pool groups items' n j x ≡ record_label text mode pool groups items n j x
      same_label_lem j x =
          rw i (label_same groups groups _ items j x (λ g c l. refl) (set_last_same items k number use_as s.label_bytes len))

      here : k < m → Stands k
      here l =
          let a : item_width * k + item_width ≤ length items = omega (arith, b.room) in
          let y : item_field items' k item_number ≡ number = rw i (set_last_number items k number use_as s.label_bytes len a) in
          let u : item_field items' k item_label ≡ s.label_bytes = rw i (set_last_at items k number use_as s.label_bytes len a) in
          let v : item_field items' k item_label_length ≡ len = rw i (set_last_len items k number use_as s.label_bytes len a) in
          rw (y, u, v) (record {
            inside = omega arith;
            is =
                rw (w, e) (fitted_at_there (record_label text mode pool groups items n k number) labels s.label_bytes (omega arith))
                ∙ sym (same_label_lem k number);
          })

      same_field : (j c : ℕ) → (j ≡ k → ⊥) → c < item_width → item_field items' j c ≡ item_field items j c
      same_field j c d l = rw i (set_last_other items k number use_as s.label_bytes len j c d l)

      other : (j : ℕ) → (j ≡ k → ⊥) → j < m → 0 < item_field items' j item_number → Stands j
      other j d l z =
          let y = same_field j 12 d (omega arith) in
          let u = same_field j 14 d (omega arith) in
          let v = same_field j 15 d (omega arith) in
          let old = b.stands j l (rw y at z) in
          let p = old.inside in
          rw (y, u, v) (record {
            inside = omega arith;
            is =
                rw w (fitted_at_kept _ labels s.label_bytes _ _ p (omega arith))
                ∙ old.is
                ∙ sym (same_label_lem j (item_field items j item_number));
          })

      pub labelled_done : Labelled text mode pool n m (numbering_of sources (s.label_bytes + len)) items' groups labels'
      unfolding set_last
      labelled_done = record {
        room = rw i (simp length-set b.room);
        stands = λ j l z. go j l z (eqb j k) refl;
      }
        where
          go : (j : ℕ) → j < m → 0 < item_field items' j item_number → (t : Bool) → eqb j k ≡ t → Stands j
          go j l z true p = rw (eqb-true j k p) (here (rw (eqb-true j k p) at l))
          go j l z false p = other j (eqb-false j k p) l z
