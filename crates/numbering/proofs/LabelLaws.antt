-- The label of an item record,
-- in the form of the goals.
use Prim.Native.Nat.{ℕ, ◌+◌, ◌≤◌, ◌<◌}
use native.Mathlib.Omega.{arith}
use mathlib.Core.Path.{◌≡◌, refl, sym, ◌∙◌, ap}
use mathlib.Core.List.{List, []}
use mathlib.Core.Bool.{Bool, true}
use mathlib.Core.Option.{get_or}
use lib.ListN.{length, take, drop, length-take, length-drop}
use lib.Dec.{eqb}
use borrow.Author.Tests.{eqb-true}
use Rattle.std.specs.Prelude.{Option as Answer, Some, None, IfSome}
use Rattle.base.proofs.Bools.{and_three}
use Rattle.base.proofs.Lasts.{last_holds}
use Rattle.base.proofs.Sames.{same_true}
use Rattle.base.specs.Lent.{lent}
use Rattle.source.specs.Years.{written_year}
use Rattle.base.specs.Modes.{mode_number}
use Rattle.base.specs.declared.mode.Mode.{Mode}
use Rattle.base.specs.declared.mode.Mode.TheVariants.{Number, AuthorYear}
use Rattle.decimal.specs.Decimal.{decimal}
use Rattle.definition.specs.declared.defined.AuthorYear.{AuthorYear as Gift}
use Rattle.definition.specs.declared.defined.Definition.{Definition}
use Rattle.definition.specs.Parts.{Gives}
use Rattle.definition.specs.Defs.{def_author, def_year}
use Rattle.label.specs.Labels.{label_by, label_text}
use Rattle.label.specs.Areas.{fitted, fitted_at}
use Rattle.label.proofs.AreaLaws.{fitted_back}
use Rattle.definition.specs.Definitions.{definition_in}
use Rattle.records.specs.Records.{key_in, suppressed_in}
use Rattle.records.specs.Fields.{item_field}
use Rattle.definition.specs.Defined.{defined_as}
use Rattle.base.specs.Found.{Found}
use Rattle.uses.specs.Uses.{same_label, last_alike}
use Rattle.numbering.specs.declared.Numbering.{Numbering}
use Rattle.numbering.specs.Numbers.{record_label}
use Rattle.numbering.specs.Progress.{Alike, LabelStands, Labelled}
use Rattle.records.specs.Widths.{item_number, item_marks, item_label, item_label_length}

module _ (text pool groups items : List ℕ) (mode : Mode) (n k number : ℕ) where
  abbrev L : List ℕ
  L = record_label text (mode_number mode) pool groups items n k number

  -- by number alone
  plain : mode ≡ Number → decimal number ≡ L
  unfolding label_text label_by
  plain p = rw p refl

  pub plain_length : {r : ℕ} → mode ≡ Number → r ≡ length (decimal number) → r ≡ length L
  plain_length p e = e ∙ ap length (plain p)

  pub plain_area : (out : List ℕ) {o : List ℕ} → mode ≡ Number → o ≡ fitted (decimal number) out → o ≡ fitted L out
  plain_area out p e = e ∙ ap (λ (l : List ℕ). fitted l out) (plain p)

  -- by what was found
  module _ (d : Answer Definition) (v : Gift) {key : List ℕ} {b : Bool} (m : mode ≡ AuthorYear) (p : key ≡ key_in text items k)
      (q : defined_as text groups n pool d ≡ definition_in text groups items n pool key)
      (g : Gives v (def_author (defined_as text groups n pool d)) (def_year (defined_as text groups n pool d)))
      (e : b ≡ suppressed_in items k) where
    named : label_by 1 b number (get_or (lent v.author) []) (written_year v.year) ≡ L
    unfolding label_text
    named = rw (m, g.author_as, g.year_as, q, e, p) refl

    pub named_length : {r : ℕ} → r ≡ length (label_by 1 b number (get_or (lent v.author) []) (written_year v.year)) → r ≡ length L
    named_length h = h ∙ ap length named

    pub named_area : (out : List ℕ) {o : List ℕ}
        → o ≡ fitted (label_by 1 b number (get_or (lent v.author) []) (written_year v.year)) out → o ≡ fitted L out
    named_area out h = h ∙ ap (λ (l : List ℕ). fitted l out) named

pub ruleset label_laws = (plain_length, plain_area, named_length, named_area)

-- a record before that has the same label
before_found : (text items : List ℕ) (k number : ℕ) {j : ℕ} → (number ≡ 0 → ⊥) → j ≡ last_alike text items k number → j < k
    → Alike text items k number j
unfolding last_alike same_label suppressed_in
before_found text items k number {j} o e h =
    let t : same_label text items k number j ≡ true =
    rw e (last_holds (same_label text items k number) k k (omega arith) (rw e at h)) in
    let r = and_three (eqb (item_field items j item_number) number) (eqb (item_field items j item_marks) (item_field items k item_marks)) _ t in
    record {
      some = omega arith;
      numbered = eqb-true (item_field items j item_number) number r.0;
      mark = rw (eqb-true (item_field items j item_marks) (item_field items k item_marks) r.1) refl;
      key = same_true (key_in text items j) (key_in text items k) r.2;
    }

pub before_alike : (text items : List ℕ) (k number : ℕ) (r : Answer ℕ) → (number ≡ 0 → ⊥) → Found k (last_alike text items k number) r
    → IfSome r (λ j. (j < k) × Alike text items k number j)
before_alike text items k number None o h = tt
before_alike text items k number (Some j) o h = (h.1, before_found text items k number o h.0 h.1)

pub ruleset before_laws = (before_alike)

-- its label, copied
module _ (text : List ℕ) (mode : ℕ) (pool : List ℕ) (n m k number j : ℕ) {s : Numbering} {items groups labels : List ℕ} {at len : ℕ}
    (l : Labelled text mode pool n m s items groups labels) (h : s.label_bytes ≤ length labels)
    (t : j < m) (alike : Alike text items k number j)
    (p : at ≡ item_field items j item_label) (q : len ≡ item_field items j item_label_length) where
  stands : LabelStands (record_label text mode pool groups items n k number) at len s.label_bytes labels
  stands =
      let z : 0 < item_field items j item_number = rw alike.numbered alike.some in
      let x = l.stands j t z in
      rw (p, q) (record { inside = x.inside; is = x.is ∙ rw (alike.numbered, alike.mark, alike.key) refl })

  pub copy_inside : at + len ≤ s.label_bytes
  copy_inside = stands.inside

  pub copy_length : len ≡ length (record_label text mode pool groups items n k number)
  copy_length =
      let i = copy_inside in
      let e : length (take len (drop at labels)) ≡ len = simp (length-take, length-drop) (omega arith) in
      sym e ∙ ap length stands.is

  pub copy_area : {labels' : List ℕ} → labels' ≡ fitted_at (take len (drop at labels)) s.label_bytes labels
      → labels' ≡ fitted_at (record_label text mode pool groups items n k number) s.label_bytes labels
  copy_area w = w ∙ ap (λ (o : List ℕ). fitted_at o s.label_bytes labels) stands.is

pub ruleset copy_laws = (copy_inside, copy_length, copy_area, fitted_back)
