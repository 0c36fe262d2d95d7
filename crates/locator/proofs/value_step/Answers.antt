-- The answers of `locator::value_step`: where the value ends, and where it goes on,
-- by the laws of proofs/Scans.
use Rattle.std.proofs.Common.{sym, ◌∙◌, arith}
use Rattle.locator.proofs.Scans.{step_out, step_byte, step_letters, step_stops}
use Rattle.locator.proofs.value_step.Goals.{else-k-end-via-then-k-end+else-letters_end-end, else-k-end-via-else-k-end}
use Rattle.locator.proofs.value_step.Goals as goal

pub returns-in_err-get : goal.returns-in_err-get
returns-in_err-get c = rw c.from_residual.ensures (step_out _ _ c.in_err-get.ensures.lookup.3)

pub returns-then-is_digit_or_mark : goal.returns-then-is_digit_or_mark
returns-then-is_digit_or_mark c = let l = c.in_ok-get.ensures.lookup.3 in step_byte _ _ l.0 (l.1 0) c.if-is_digit_or_mark.ensures

pub returns-then-letters_end-end : goal.returns-then-letters_end-end
returns-then-letters_end-end c =
    let l = c.in_ok-get.ensures.lookup.3 in
    step_letters _ _ l.0 (l.1 0) c.roman_end-end.ensures c.if-k-end.true (sym c.letters_end.ensures ∙ c.if-letters_end-end.true)

pub returns-else-k-end : goal.returns-else-k-end
returns-else-k-end c =
    let l = c.in_ok-get.ensures.lookup.3 in
    step_stops _ _ l.0 (l.1 0) c.roman_end-end.ensures c.if-is_digit_or_mark.ensures
    (elim c.else-k-end.branch [
      | else-k-end-via-then-k-end+else-letters_end-end w ↦ λ x y. w.if-letters_end-end.false (w.letters_end.ensures ∙ y)
      | else-k-end-via-else-k-end w ↦ λ x y. absurd (omega arith)
    ])
