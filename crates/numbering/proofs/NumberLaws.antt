-- The items of a group, and all groups,
-- in the form of the goals.
use Prim.Native.Nat.{ℕ, zero, suc, ◌+◌, ◌-◌, ◌*◌, ◌≤◌, ◌<◌}
use native.Mathlib.Omega.{arith}
use mathlib.Core.Path.{◌≡◌, refl, sym, ◌∙◌}
use mathlib.Core.List.{List}
use mathlib.Core.Bool.{Bool, true, false, and-false}
use Rattle.std.specs.Prelude.{Option, Some, None}
use lib.ListN.{length, set}
use borrow.Author.Tests.{eq-eqb, ne_eqb}
use Rattle.base.specs.Pick.{pick}
use Rattle.base.proofs.Areas.{written_none}
use Rattle.numbering.specs.declared.Numbering.{Numbering}
use Rattle.records.specs.Fields.{group_field}
use Rattle.numbering.specs.Numbers.{Numbered, start, cite_in, cite_from, stands_numbered, is_numbered, number_group, number_from, number_all, keys_defined}
use Rattle.numbering.specs.Progress.{room_of, numbering_of, Agrees, Holds, Advances}
use Rattle.numbering.proofs.CiteLaws.{full_more, kept, some_so, then, as_step, over_more, cite_grows}
use Rattle.records.specs.Widths.{group_count, group_first, group_standing, group_width}

module _ (text : List ℕ) (mode : ℕ) (pool : List ℕ) (n : ℕ) where
  -- the items of a group ----------------------------------------------------------------------------------------------------------

  -- one more at the end
  cites_next : (i : ℕ) (t : Numbered) (k : ℕ) → cite_in text mode pool n (cite_from text mode pool n i t k) (k + i) ≡ cite_from text mode pool n (i + 1) t k
  unfolding cite_from
  cites_next zero t k = let z : k + 0 ≡ k = omega arith in rw z refl
  cites_next (suc i) t k =
      let z : k + suc i ≡ k + 1 + i = omega arith in
      let y : suc i + 1 ≡ suc (i + 1) = omega arith in
      rw (z, y) (cites_next i (cite_in text mode pool n t k) (k + 1))

  cites_grow : (m : ℕ) (t : Numbered) (k : ℕ) → length t.labels ≤ length (cite_from text mode pool n m t k).labels
  unfolding cite_from
  cites_grow zero t k = omega arith
  cites_grow (suc m) t k =
      let a = cite_grows text mode pool n k t in
      let b = cites_grow m (cite_in text mode pool n t k) (k + 1) in
      omega arith

  cites_mono : (i m : ℕ) (t : Numbered) (k : ℕ) → i ≤ m → length (cite_from text mode pool n i t k).labels ≤ length (cite_from text mode pool n m t k).labels
  unfolding cite_from
  cites_mono zero m t k h = cites_grow m t k
  cites_mono (suc i) zero t k h = absurd (omega arith)
  cites_mono (suc i) (suc m) t k h = cites_mono i m (cite_in text mode pool n t k) (k + 1) (omega arith)

  module _ (first : ℕ) (s : Numbering) (items groups labels : List ℕ) where
    pub cites_start : s.label_bytes ≤ room_of labels
        → Advances (first - first) (λ t. cite_from text mode pool n (first - first) t first) s (Some s) items groups labels items groups labels
    unfolding cite_from
    cites_start h = let z : first - first ≡ 0 = omega arith in rw z (kept 0 (λ t. t) s items groups labels h (λ t a b. refl))

    pub cites_more : {k : ℕ} {r : Numbering} (q : Option Numbering) {i1 l1 i2 l2 : List ℕ} → first ≤ k
        → Advances (k - first) (λ t. cite_from text mode pool n (k - first) t first) s (Some r) items groups labels i1 groups l1
        → Advances 1 (λ t. cite_in text mode pool n t k) r q i1 groups l1 i2 groups l2
        → Advances (k + 1 - first) (λ t. cite_from text mode pool n (k + 1 - first) t first) s q items groups labels i2 groups l2
    cites_more {k} q h x y =
        let e : first + (k - first) ≡ k = omega arith in
        let z : k + 1 - first ≡ k - first + 1 = omega arith in
        rw z (as_step q (then q x y) (omega arith) (λ t. rw e at (cites_next (k - first) t first)))

    pub cites_over : {k m : ℕ} {r : Numbering} {i1 l1 i2 l2 : List ℕ} → first ≤ k → k < first + m
        → Advances (k - first) (λ t. cite_from text mode pool n (k - first) t first) s (Some r) items groups labels i1 groups l1
        → Advances 1 (λ t. cite_in text mode pool n t k) r None i1 groups l1 i2 groups l2
        → Advances m (λ t. cite_from text mode pool n m t first) s None items groups labels i2 groups l2
    cites_over {k} {m} h l x y = over_more (cites_more None h x y) (λ t. cites_mono (k + 1 - first) m t first (omega arith))

  -- a group -----------------------------------------------------------------------------------------------------------------------

  pub group_grows : (t : Numbered) (g : ℕ) → length t.labels ≤ length (number_group text mode pool n t g).labels
  unfolding number_group stands_numbered
  group_grows t g = go (is_numbered text mode pool n t g)
    where
      u : Numbered
      u = cite_from text mode pool n (group_field t.groups g group_count) (stands_numbered text mode pool n t g) (group_field t.groups g group_first)

      go : (b : Bool) → length t.labels ≤ length (pick b u t).labels
      go true = grown
        where
          grown : length t.labels ≤ length u.labels
          grown = cites_grow (group_field t.groups g group_count) (stands_numbered text mode pool n t g) (group_field t.groups g group_first)
      go false = omega arith

  -- what is not numbered stays
  group_stays : (t : Numbered) (g : ℕ) → is_numbered text mode pool n t g ≡ false → t ≡ number_group text mode pool n t g
  unfolding number_group
  group_stays t g p = rw p refl

  module _ (g : ℕ) (s : Numbering) (items groups labels : List ℕ) (h : s.label_bytes ≤ room_of labels) where
    -- a group that is not numbered, by what the areas have
    unnumbered : ((t : Numbered) → groups ≡ t.groups → items ≡ t.items → is_numbered text mode pool n t g ≡ false)
        → Advances 65535 (λ t. number_group text mode pool n t g) s (Some s) items groups labels items groups labels
    unnumbered p = kept 65535 (λ t. number_group text mode pool n t g) s items groups labels h (λ t e f. sym (group_stays t g (p t e f)))

    pub group_line : {d : ℕ} → d ≡ group_field groups g group_standing → d ≡ 0
        → Advances 65535 (λ t. number_group text mode pool n t g) s (Some s) items groups labels items groups labels
    unfolding is_numbered
    group_line p z = unnumbered (λ t e f. line t e)
      where
        line : (t : Numbered) → groups ≡ t.groups → is_numbered text mode pool n t g ≡ false
        line t e = rw (← e, ← p, eq-eqb _ 0 z) refl

    module _ {first count : ℕ} {b : Bool} (p : first ≡ group_field groups g group_first) (q : count ≡ group_field groups g group_count)
        (k : b ≡ keys_defined text pool groups items n count first) where
      keys_of : (t : Numbered) → groups ≡ t.groups → items ≡ t.items
          → keys_defined text pool t.groups t.items n (group_field t.groups g group_count) (group_field t.groups g group_first) ≡ b
      keys_of t e f = rw (← e, ← f, ← p, ← q) (sym k)

      pub group_undefined : b ≡ false → Advances 65535 (λ t. number_group text mode pool n t g) s (Some s) items groups labels items groups labels
      unfolding is_numbered
      group_undefined z = unnumbered (λ t e f. undefined t e f)
        where
          undefined : (t : Numbered) → groups ≡ t.groups → items ≡ t.items → is_numbered text mode pool n t g ≡ false
          undefined t e f = rw (keys_of t e f, z, and-false) refl

      module _ {d : ℕ} {groups' : List ℕ} (st : d ≡ group_field groups g group_standing) (nz : d ≡ 0 → ⊥) (w : groups' ≡ set groups (group_width * g + group_standing) 2) where
        numbered_is : b ≡ true → (t : Numbered) → groups ≡ t.groups → items ≡ t.items
            → cite_from text mode pool n count (stands_numbered text mode pool n t g) first ≡ number_group text mode pool n t g
        unfolding number_group is_numbered
        numbered_is z t e f = rw (keys_of t e f, z, ← e, ← st, ne_eqb _ 0 nz, ← p, ← q) refl

        stands : {before : List ℕ} (t : Numbered) → Agrees t before s items groups labels
            → Agrees (stands_numbered text mode pool n t g) before s items groups' labels
        unfolding stands_numbered
        stands t a = record {
          sources = a.sources;
          label_bytes = a.label_bytes;
          item_area = a.item_area;
          group_area = w ∙ rw a.group_area refl;
          label_area = a.label_area;
          label_long = a.label_long;
        }

        pub group_numbered : (r : Option Numbering) {items' labels' : List ℕ} → b ≡ true → count < 65536
            → Advances count (λ t. cite_from text mode pool n count t first) s r items groups' labels items' groups' labels'
            → Advances 65535 (λ t. number_group text mode pool n t g) s r items groups labels items' groups' labels'
        group_numbered r z l y = record {
          holds = λ t before a.
              rw (numbered_is z t a.group_area a.item_area) at (y.holds (stands_numbered text mode pool n t g) before (stands t a));
          few = some_so r (λ q m. omega (arith, m)) y.few;
          room = y.room;
          long = y.long;
        }

  -- all groups --------------------------------------------------------------------------------------------------------------------

  groups_next : (i : ℕ) (t : Numbered) (g : ℕ) → number_group text mode pool n (number_from text mode pool n i t g) (g + i) ≡ number_from text mode pool n (i + 1) t g
  unfolding number_from
  groups_next zero t g = let z : g + 0 ≡ g = omega arith in rw z refl
  groups_next (suc i) t g =
      let z : g + suc i ≡ g + 1 + i = omega arith in
      let y : suc i + 1 ≡ suc (i + 1) = omega arith in
      rw (z, y) (groups_next i (number_group text mode pool n t g) (g + 1))

  groups_grow : (m : ℕ) (t : Numbered) (g : ℕ) → length t.labels ≤ length (number_from text mode pool n m t g).labels
  unfolding number_from
  groups_grow zero t g = omega arith
  groups_grow (suc m) t g =
      let a = group_grows t g in
      let b = groups_grow m (number_group text mode pool n t g) (g + 1) in
      omega arith

  groups_mono : (i m : ℕ) (t : Numbered) (g : ℕ) → i ≤ m → length (number_from text mode pool n i t g).labels ≤ length (number_from text mode pool n m t g).labels
  unfolding number_from
  groups_mono zero m t g h = groups_grow m t g
  groups_mono (suc i) zero t g h = absurd (omega arith)
  groups_mono (suc i) (suc m) t g h = groups_mono i m (number_group text mode pool n t g) (g + 1) (omega arith)

  module _ (s : Numbering) (items groups labels : List ℕ) where
    pub groups_start : s.label_bytes ≤ room_of labels
        → Advances (65535 * 0) (λ t. number_from text mode pool n 0 t 0) s (Some s) items groups labels items groups labels
    unfolding number_from
    groups_start h = kept 0 (λ t. t) s items groups labels h (λ t a b. refl)

    pub groups_more : (i : ℕ) {r : Numbering} (q : Option Numbering) {i1 g1 l1 i2 g2 l2 : List ℕ}
        → Advances (65535 * i) (λ t. number_from text mode pool n i t 0) s (Some r) items groups labels i1 g1 l1
        → Advances 65535 (λ t. number_group text mode pool n t i) r q i1 g1 l1 i2 g2 l2
        → Advances (65535 * (i + 1)) (λ t. number_from text mode pool n (i + 1) t 0) s q items groups labels i2 g2 l2
    groups_more i q x y =
        as_step q (then q x y) (omega arith) (λ t. let z : 0 + i ≡ i = omega arith in rw z at (groups_next i t 0))

    pub groups_over : (i : ℕ) {r : Numbering} {i1 g1 l1 i2 g2 l2 : List ℕ} → i < n
        → Advances (65535 * i) (λ t. number_from text mode pool n i t 0) s (Some r) items groups labels i1 g1 l1
        → Advances 65535 (λ t. number_group text mode pool n t i) r None i1 g1 l1 i2 g2 l2
        → Advances (65535 * n) (λ t. number_from text mode pool n n t 0) s None items groups labels i2 g2 l2
    groups_over i h x y = over_more (groups_more i None x y) (λ t. groups_mono (i + 1) n t 0 (omega arith))

  pub groups_end : {r : Option Numbering} {items groups labels i1 g1 l1 : List ℕ}
      → Advances (65535 * n) (λ t. number_from text mode pool n n t 0) (numbering_of 0 0) r items groups labels i1 g1 l1
      → Holds (number_all text mode pool n items groups) (room_of labels) labels r i1 g1 l1
  unfolding number_all
  groups_end {r} {items} {groups} {labels} x =
      x.holds (start items groups) labels (record {
        sources = refl;
        label_bytes = refl;
        item_area = refl;
        group_area = refl;
        label_area = written_none labels;
        label_long = refl;
      })
