-- A numbered item, and those of a group,
-- in the form of the goals.
use Prim.Native.Nat.{ℕ, ◌+◌, ◌-◌, ◌*◌, ◌≤◌, ◌<◌, min}
use native.Mathlib.Omega.{arith}
use mathlib.Core.Path.{◌≡◌, refl, sym, ◌∙◌, ap}
use mathlib.Core.List.{List}
use Rattle.std.specs.Prelude.{Option, Some, None, IfSome}
use lib.ListN.{length, set, length-append, length-set}
use borrow.Author.Tests.{le-leb, lt-leb, leb-false}
use Rattle.base.specs.Lists.{written}
use Rattle.pool.specs.Layout.{has_pool}
use Rattle.label.specs.Areas.{fitted_at}
use Rattle.label.proofs.AreaLaws.{fitted_at_length, fitted_at_next}
use Rattle.numbering.specs.declared.Numbering.{Numbering}
use Rattle.uses.specs.declared.Count.{Count}
use Rattle.definition.specs.Lines.{LinesBelow}
use Rattle.numbering.specs.Numbers.{Numbered, record_label, label_in, cite_as, cite_in}
use Rattle.uses.specs.Uses.{set_last, Counts}
use Rattle.numbering.specs.Progress.{room_of, numbering_of, Agrees, Holds, Advances}
use Rattle.uses.proofs.Fields.{set_last_same, set_standing_same}
use Rattle.numbering.proofs.ByLines.{lines_same}
use Rattle.records.specs.Widths.{item_width, group_width, group_standing}

-- labels that do not fit still do not with more of them
pub full_more : (t u : Numbered) (room : ℕ) {before before' items groups labels items' groups' labels' : List ℕ}
    → Holds t room before None items groups labels → length t.labels ≤ length u.labels → Holds u room before' None items' groups' labels'
full_more t u room h l =
    let k = leb-false (length t.labels) room (sym h.fits) in
    record { fits = sym (lt-leb (length u.labels) room (omega arith)); agrees = tt }

-- a fact of what is there, by a weaker one
pub some_so : {P Q : Numbering → Type 0} (r : Option Numbering) → ((q : Numbering) → P q → Q q) → IfSome r P → IfSome r Q
some_so None f h = tt
some_so (Some q) f h = f q h

-- what is written into the records moves no definition line
module _ (text groups items : List ℕ) {n lines : ℕ} (b : LinesBelow text groups items n lines) where
  pub lines_cited : (k number use_as at len : ℕ) {items' : List ℕ} → items' ≡ set_last items k number use_as at len
      → LinesBelow text groups items' n lines
  lines_cited k number use_as at len e =
      rw e (lines_same text groups groups _ items (λ g c l. refl) (set_last_same items k number use_as at len) b)

  pub lines_stood : (g standing : ℕ) {groups' : List ℕ} → groups' ≡ set groups (group_width * g + group_standing) standing → LinesBelow text groups' items n lines
  lines_stood g standing e = rw e (lines_same text _ groups items items (set_standing_same groups g standing) (λ k c l. refl) b)

-- nor takes room from the records
pub room_cited : (m : ℕ) (items : List ℕ) (k number use_as at len : ℕ) {items' : List ℕ} → item_width * m ≤ length items
    → items' ≡ set_last items k number use_as at len → item_width * m ≤ length items'
unfolding set_last
room_cited m items k number use_as at len h e = rw e (simp length-set h)

-- steps one after the other --------------------------------------------------------------------------------------------------------

-- a step that changes nothing
pub kept : (more : ℕ) (step : Numbered → Numbered) (s : Numbering) (items groups labels : List ℕ) → s.label_bytes ≤ room_of labels
    → ((t : Numbered) → groups ≡ t.groups → items ≡ t.items → step t ≡ t) → Advances more step s (Some s) items groups labels items groups labels
kept more step s items groups labels h e = record {
  holds = λ t before a.
      let l = a.label_bytes in
      rw (e t a.group_area a.item_area) (record { fits = sym (le-leb (length t.labels) (room_of labels) (omega arith)); agrees = a });
  few = omega arith;
  room = h;
  long = refl;
}

module _ {a b : ℕ} {f g : Numbered → Numbered} {s r : Numbering} (q : Option Numbering) {i0 g0 l0 i1 g1 l1 i2 g2 l2 : List ℕ}
    (x : Advances a f s (Some r) i0 g0 l0 i1 g1 l1) (y : Advances b g r q i1 g1 l1 i2 g2 l2) where
  same_room : room_of l1 ≡ room_of l0
  same_room = ap (min 65535) x.long

  pub then : Advances (a + b) (λ t. g (f t)) s q i0 g0 l0 i2 g2 l2
  then = record {
    holds = λ t before k. rw same_room at (y.holds (f t) before (x.holds t before k).agrees);
    few = let m = x.few in some_so q (λ z h. omega (arith, h)) y.few;
    room = rw same_room at y.room;
    long = y.long ∙ x.long;
  }

-- the same step by another name, and with a higher bound
pub as_step : {a b : ℕ} {f g : Numbered → Numbered} {s : Numbering} (r : Option Numbering) {i0 g0 l0 i1 g1 l1 : List ℕ}
    → Advances a f s r i0 g0 l0 i1 g1 l1 → a ≤ b → ((t : Numbered) → f t ≡ g t) → Advances b g s r i0 g0 l0 i1 g1 l1
as_step r x l e = record {
  holds = λ t before k. rw (e t) at (x.holds t before k);
  few = some_so r (λ z h. omega (arith, h)) x.few;
  room = x.room;
  long = x.long;
}

-- a step after which the labels do not fit, and more of them
pub over_more : {a b : ℕ} {f g : Numbered → Numbered} {s : Numbering} {i0 g0 l0 i1 g1 l1 : List ℕ} → Advances a f s None i0 g0 l0 i1 g1 l1
    → ((t : Numbered) → length (f t).labels ≤ length (g t).labels) → Advances b g s None i0 g0 l0 i1 g1 l1
over_more {f = f} {g = g} {l0 = l0} x e = record {
  holds = λ t before k. full_more (f t) (g t) (room_of l0) (x.holds t before k) (e t);
  few = tt;
  room = tt;
  long = x.long;
}

-- one item -------------------------------------------------------------------------------------------------------------------------

module _ (text : List ℕ) (mode : ℕ) (pool : List ℕ) (n k : ℕ) where
  pub cite_grows : (t : Numbered) → length t.labels ≤ length (cite_in text mode pool n t k).labels
  unfolding cite_in cite_as
  cite_grows t = simp length-append (omega arith)

  module _ (s : Numbering) (items groups labels : List ℕ) where
    module _ {c : Count} {len : ℕ} {labels' : List ℕ} (h : s.label_bytes ≤ room_of labels)
        (q : Counts text items (has_pool pool) s.sources k c)
        (e : len ≡ length (record_label text mode pool groups items n k c.number))
        (w : labels' ≡ fitted_at (record_label text mode pool groups items n k c.number) s.label_bytes labels) where
      -- it is the label that the numbering_of asks for
      label_is : (t : Numbered) (before : List ℕ) → Agrees t before s items groups labels → record_label text mode pool groups items n k c.number ≡ label_in text mode pool n t k
      unfolding label_in
      label_is t before a = rw (q.number, a.item_area, a.group_area, a.sources) refl

      longer : (t : Numbered) (before : List ℕ) → Agrees t before s items groups labels
          → length (cite_in text mode pool n t k).labels ≡ s.label_bytes + len
      unfolding cite_in cite_as
      longer t before a = rw (length-append, ← label_is t before a, ← a.label_bytes, ← e) refl

      same_long : length labels' ≡ length labels
      same_long = rw w (fitted_at_length (record_label text mode pool groups items n k c.number) labels s.label_bytes)

      pub cite_over : room_of labels - s.label_bytes < len
          → Advances 1 (λ t. cite_in text mode pool n t k) s None items groups labels items groups labels'
      cite_over l = record {
        holds = λ t before a.
            let y = longer t before a in
            record {
              fits = sym (lt-leb (length (cite_in text mode pool n t k).labels) (room_of labels) (omega arith));
              agrees = tt;
            };
        few = tt;
        room = tt;
        long = same_long;
      }

      groups_done : (t : Numbered) (before : List ℕ) → Agrees t before s items groups labels → groups ≡ (cite_in text mode pool n t k).groups
      unfolding cite_in cite_as
      groups_done t before a = a.group_area

      sources_done : (t : Numbered) (before : List ℕ) → Agrees t before s items groups labels → c.sources ≡ (cite_in text mode pool n t k).sources
      unfolding cite_in cite_as
      sources_done t before a = q.sources ∙ rw (a.item_area, a.sources) refl

      items_done : (t : Numbered) (before : List ℕ) → Agrees t before s items groups labels
          → set_last items k c.number c.use_index s.label_bytes len ≡ (cite_in text mode pool n t k).items
      unfolding cite_in cite_as
      items_done t before a = rw (q.number, q.use_as, e, label_is t before a, a.label_bytes, a.item_area, a.sources) refl

      -- there is room for it
      fits_there : len ≤ room_of labels - s.label_bytes
          → s.label_bytes + length (record_label text mode pool groups items n k c.number) ≤ length labels
      fits_there l = omega arith

      written_done : len ≤ room_of labels - s.label_bytes → (t : Numbered) (before : List ℕ) → Agrees t before s items groups labels
          → labels' ≡ written (cite_in text mode pool n t k).labels before
      unfolding cite_in cite_as
      written_done l t before a =
          rw (w, ← label_is t before a)
          (fitted_at_next (record_label text mode pool groups items n k c.number) labels s.label_bytes (fits_there l) before t.labels
          a.label_area a.label_bytes)

      pub cite_done : {items' : List ℕ} → len ≤ room_of labels - s.label_bytes
          → items' ≡ set_last items k c.number c.use_index s.label_bytes len
          → Advances 1 (λ t. cite_in text mode pool n t k) s (Some (numbering_of c.sources (s.label_bytes + len)))
          items groups labels items' groups labels'
      cite_done l i = record {
        holds = λ t before a.
            let y = longer t before a in
            record {
              fits = sym (le-leb (length (cite_in text mode pool n t k).labels) (room_of labels) (omega arith));
              agrees = record {
                sources = sources_done t before a;
                label_bytes = sym y;
                item_area = i ∙ items_done t before a;
                group_area = groups_done t before a;
                label_area = written_done l t before a;
                label_long = same_long ∙ a.label_long;
              };
            };
        few = q.more;
        room = omega arith;
        long = same_long;
      }
