-- Value, suffix and the whole locator as the code finds them, step by step:
-- `l`, `v`, `p` and `r` are what calls gave.
use Prim.Native.Nat.{ℕ, ◌≤◌, ◌<◌}
use native.Mathlib.Omega.{arith}
use mathlib.Core.Path.{◌≡◌, refl, sym}
use Rattle.std.specs.Prelude.{Some, None}
use mathlib.Core.List.{List}
use lib.ListN.{length}
use borrow.Author.Tests.{le-leb, lt-leb}
use Rattle.base.specs.declared.Span.{Span}
use Rattle.base.specs.Spans.{span_of}
use Rattle.locator.specs.declared.Label.{Label}
use Rattle.locator.specs.declared.Locator.{Locator}
use Rattle.locator.specs.declared.Locator.TheVariants.{Nothing, Plain}
use Rattle.locator.specs.Locators.{skip_blanks, value_run, valued, label_of, labelled, locator_from, locator_of}
use Rattle.locator.proofs.Parts.{run_by, skip_by}
use Rattle.locator.proofs.Labels.{label_by_lem}

pub run_within : (s : List ℕ) (v : ℕ) → v ≤ length s → value_run s v (length s) ≤ length s
run_within s v h = omega (arith, run_by s v (length s))

-- the stretch from `a` to `e`, which begins at `i` after leading blanks
module _ (s : List ℕ) (a e : ℕ) where
  pub value_start : (i : ℕ) {l : Label} {v : ℕ} → i < e → Some l ≡ label_of s i e → v ≡ skip_blanks s l.after e → v ≤ e
  value_start i {l} h q p =
      let g : l.after ≤ e = label_by_lem s i e (omega arith) (sym q) in
      rw p (omega (arith, skip_by s l.after e))

  pub locator_nothing : {i : ℕ} → i ≡ skip_blanks s a e → e ≤ i → Nothing ≡ locator_of s a e
  unfolding locator_of locator_from
  locator_nothing {i} q h = rw (← q, le-leb e i h) refl

  module _ {i : ℕ} (q : i ≡ skip_blanks s a e) (h : i < e) where
    pub locator_plain : {p : Span} → None ≡ label_of s i e → p ≡ span_of i e → Plain p ≡ locator_of s a e
    unfolding locator_of locator_from labelled
    locator_plain t p = rw (← q, lt-leb e i h, ← t, ← p) refl

    pub locator_labelled : {l : Label} {v : ℕ} {r : Locator} → Some l ≡ label_of s i e
        → v ≡ skip_blanks s l.after e → r ≡ valued s l.term v e → r ≡ locator_of s a e
    unfolding locator_of locator_from labelled
    locator_labelled t p r = rw (← q, lt-leb e i h, ← t, ← p) r

pub ruleset locator_laws = (value_start, locator_nothing, locator_plain, locator_labelled)
