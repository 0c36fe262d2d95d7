-- A mode number counts only by whether it is 0: each value at a number is that at the mode which the number is
-- clamped to.
use Prim.Native.Nat.{ℕ, zero, suc, ◌+◌, min}
use native.Mathlib.Omega.{arith}
use mathlib.Core.Path.{◌≡◌, refl}
use mathlib.Core.List.{List}
use Rattle.std.specs.Prelude.{Option}
use lib.Dec.{eqb}
use borrow.Author.Tests.{ne_eqb}
use Rattle.label.specs.Labels.{label_by, label_text}
use Rattle.numbering.specs.declared.Numbering.{Numbering}
use Rattle.numbering.specs.Numbers.{Numbered, start, record_label, label_in, cite_as, cite_in, cite_from, stands_numbered, is_numbered, number_group, number_from, number_all}
use Rattle.numbering.specs.Progress.{Advances, Labelled}
use Rattle.numbering.proofs.CiteLaws.{as_step}

pub zero_same : (mode : ℕ) → eqb (min mode 1) 0 ≡ eqb mode 0
zero_same zero = refl
zero_same (suc k) = let e : min (suc k) 1 ≡ 1 = omega arith in rw (e, ne_eqb (suc k) 0 (λ p. omega arith))

module _ (text : List ℕ) (mode : ℕ) (pool : List ℕ) (n : ℕ) where
  record_same : (groups items : List ℕ) (k number : ℕ)
      → record_label text (min mode 1) pool groups items n k number ≡ record_label text mode pool groups items n k number
  unfolding label_text label_by
  record_same groups items k number = rw (zero_same mode) refl

  cite_same : (t : Numbered) (k : ℕ) → cite_in text (min mode 1) pool n t k ≡ cite_in text mode pool n t k
  unfolding cite_in cite_as label_in
  cite_same t k = rw (record_same t.groups t.items k _) refl

  cites_same : (m : ℕ) (t : Numbered) (k : ℕ) → cite_from text (min mode 1) pool n m t k ≡ cite_from text mode pool n m t k
  unfolding cite_from
  cites_same zero t k = refl
  cites_same (suc m) t k = rw (cite_same t k) (cites_same m (cite_in text mode pool n t k) (k + 1))

  group_same : (t : Numbered) (g : ℕ) → number_group text (min mode 1) pool n t g ≡ number_group text mode pool n t g
  unfolding number_group is_numbered stands_numbered
  group_same t g = rw cites_same refl

  groups_same : (m : ℕ) (t : Numbered) (g : ℕ) → number_from text (min mode 1) pool n m t g ≡ number_from text mode pool n m t g
  unfolding number_from
  groups_same zero t g = refl
  groups_same (suc m) t g = rw (group_same t g) (groups_same m (number_group text mode pool n t g) (g + 1))

  pub all_same : (items groups : List ℕ) → number_all text (min mode 1) pool n items groups ≡ number_all text mode pool n items groups
  unfolding number_all
  all_same items groups = groups_same n (start items groups) 0

  module _ (m : ℕ) (s : Numbering) (items groups labels : List ℕ) where
    pub labelled_down : Labelled text mode pool n m s items groups labels → Labelled text (min mode 1) pool n m s items groups labels
    labelled_down b = record { room = b.room; stands = λ j l h. rw (record_same groups items j _) (b.stands j l h) }

    pub labelled_up : Labelled text (min mode 1) pool n m s items groups labels → Labelled text mode pool n m s items groups labels
    labelled_up b = record { room = b.room; stands = λ j l h. rw (record_same groups items j _) at (b.stands j l h) }

  pub group_up : (g : ℕ) {more : ℕ} {s : Numbering} (r : Option Numbering) {i0 g0 l0 i1 g1 l1 : List ℕ}
      → Advances more (λ t. number_group text (min mode 1) pool n t g) s r i0 g0 l0 i1 g1 l1
      → Advances more (λ t. number_group text mode pool n t g) s r i0 g0 l0 i1 g1 l1
  group_up g r x = as_step r x (omega arith) (λ t. group_same t g)
