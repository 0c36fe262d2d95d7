-- What callers cite of a locator: its code, and where its parts lie.
-- `l` is what `parse_locator` gave.
use Prim.Native.Nat.{ℕ, ◌+◌, ◌≤◌}
use native.Mathlib.Omega.{arith}
use mathlib.Core.Path.{◌≡◌, refl}
use mathlib.Core.List.{List, [], ◌∷◌}
use mathlib.Core.Bool.{Bool, true, false}
use lib.Dec.{leb}
use Rattle.base.specs.Pick.{pick}
use Rattle.base.specs.declared.Span.{Span}
use Rattle.base.specs.Sorted.{Each}
use Rattle.base.specs.Spans.{missing, span_of}
use Rattle.base.proofs.Spans.{span_there}
use Rattle.base.proofs.Orders.{all_by}
use Rattle.locator.specs.declared.Locator.{Locator}
use Rattle.locator.specs.declared.Locator.TheVariants.{Nothing, Plain, Labelled}
use Rattle.std.specs.Prelude.{Option, Some, None}
use Rattle.locator.specs.declared.Label.{Label}
use Rattle.locator.specs.declared.Term.{Term}
use Rattle.locator.specs.declared.Term.TheVariants.{SubVerbo, Paragraph, Section, Chapter, Volume, Figure, Column, Verse, Page, Folio, Issue, Note, Opus, Part, Line, Book}
use Rattle.locator.specs.Matchers.{code_of_term}
use Rattle.locator.specs.Locators.{skip_blanks, label_of, valued, labelled, locator_from, locator_of}
use Rattle.locator.specs.Answers.{code_of, value_of, suffix_of}
use Rattle.locator.proofs.Parts.{locator_in_order}

pub code_by : (t : Term) → code_of_term t ≤ 16
code_by SubVerbo = omega arith
code_by Paragraph = omega arith
code_by Section = omega arith
code_by Chapter = omega arith
code_by Volume = omega arith
code_by Figure = omega arith
code_by Column = omega arith
code_by Verse = omega arith
code_by Page = omega arith
code_by Folio = omega arith
code_by Issue = omega arith
code_by Note = omega arith
code_by Opus = omega arith
code_by Part = omega arith
code_by Line = omega arith
code_by Book = omega arith

-- what holds of nothing, of a plain locator and of a labelled one holds of every locator
pub by_cases
    : (P : Locator → Type 0) (s : List ℕ) (a e : ℕ) → P Nothing → ((i : ℕ) → P (Plain (span_of i e)))
    → ((t : Term) (x y z : ℕ) → P (Labelled t (span_of x y) (span_of z e))) → P (locator_of s a e)
unfolding locator_of locator_from labelled valued
by_cases P s a e n p v = go (leb e i) (label_of s i e)
  where
    i : ℕ
    i = skip_blanks s a e

    go : (t : Bool) (m : Option Label) → P (pick t Nothing (labelled s i e m))
    go true m = n
    go false None = p i
    go false (Some l) = v l.term _ _ _

module _ (s : List ℕ) (a e : ℕ) where
  pub code_small : {l : Locator} → l ≡ locator_of s a e → code_of l ≤ 16
  unfolding code_of
  code_small q = rw q (by_cases (λ l. code_of l ≤ 16) s a e (omega arith) (λ i. omega arith) (λ t x y z. code_by t))

  pub value_missing : {l : Locator} → l ≡ locator_of s a e → (value_of l).len ≡ 0 → value_of l ≡ missing
  unfolding value_of
  value_missing q =
      rw q
      (by_cases (λ l. (value_of l).len ≡ 0 → value_of l ≡ missing) s a e (λ h. refl) (λ i h. refl) (λ t x y z. span_there x y))

  pub suffix_missing : {l : Locator} → l ≡ locator_of s a e → (suffix_of l).len ≡ 0 → suffix_of l ≡ missing
  unfolding suffix_of
  suffix_missing q =
      rw q
      (by_cases (λ l. (suffix_of l).len ≡ 0 → suffix_of l ≡ missing) s a e (λ h. refl) (λ i. span_there i e) (λ t x y z. span_there z e))

-- where value and suffix end, present or missing
module _ (s : List ℕ) (a e : ℕ) where
  ends : Each (λ (p : Span). p.at + p.len ≤ e) (value_of (locator_of s a e) ∷ suffix_of (locator_of s a e) ∷ [])
  ends = all_by _ a e (value_missing s a e refl, (suffix_missing s a e refl, tt)) (locator_in_order s a e)

  pub value_ends : (value_of (locator_of s a e)).at + (value_of (locator_of s a e)).len ≤ e
  value_ends = ends.0

  pub suffix_ends : (suffix_of (locator_of s a e)).at + (suffix_of (locator_of s a e)).len ≤ e
  suffix_ends = ends.1.0
