-- A locator of a text that is cut where the locator's stretch ends is that of the stretch:
-- the law of proofs/Moved, moved by nothing.
use Prim.Native.Nat.{ℕ, ◌≤◌}
use native.Mathlib.Omega.{arith}
use native.Mathlib.Numerals.{unary_clauses}
use mathlib.Core.Path.{◌≡◌, refl, sym, ◌∙◌}
use mathlib.Core.List.{List}
use lib.ListN.{length, take}
use lib.Seq.{length-take-le}
use Rattle.std.proofs.lemmas.List.{get_or-take}
use Rattle.base.specs.Spans.{span_of}
use Rattle.locator.specs.Locators.{locator_of}
use Rattle.locator.specs.Moved.{moved_span, moved_locator}
use Rattle.locator.proofs.Laws.{by_cases}
use Rattle.locator.proofs.Moved.{span_move, locator_move}

span_stays : (x y : ℕ) → moved_span 0 (span_of x y) ≡ span_of x y
span_stays x y = sym (simp unary_clauses at (span_move 0 x y))

locator_stays : (s : List ℕ) (a e : ℕ) → moved_locator 0 (locator_of s a e) ≡ locator_of s a e
locator_stays s a e =
    by_cases (λ l. moved_locator 0 l ≡ l) s a e refl (λ i. rw (span_stays i e) refl) (λ t x y z. rw (span_stays x y, span_stays z e) refl)

pub locator_cut : (s : List ℕ) (a e : ℕ) → e ≤ length s → locator_of (take e s) a (length (take e s)) ≡ locator_of s a e
locator_cut s a e h =
    rw (length-take-le e s h)
    (sym (locator_stays (take e s) a e)
    ∙ sym (simp unary_clauses at (locator_move s (take e s) 0 e (λ j l. simp unary_clauses (get_or-take e s j 0 l)) a e (omega arith))))
