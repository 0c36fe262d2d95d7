-- A numbering that has run out of room for its labels
-- stays so after a group more.
use Prim.Native.Nat.{ℕ, ◌≤◌}
use native.Mathlib.Omega.{arith}
use mathlib.Core.Path.{◌≡◌, refl, sym, ◌∙◌}
use mathlib.Core.List.{List}
use mathlib.Core.Bool.{false}
use lib.ListN.{length}
use borrow.Author.Tests.{lt-leb, leb-false}
use Rattle.numbering.specs.declared.wide.WideNumbering.{WideNumbering}
use Rattle.numbering.specs.Numbers.{number_group}
use Rattle.numbering.specs.Progress.{room_of}
use Rattle.numbering.specs.Wide.{WideAdvances}
use Rattle.numbering.proofs.NumberLaws.{group_grows}

pub full_stays : (text : List ℕ) (mode : ℕ) (pool : List ℕ) (n g : ℕ) (s : WideNumbering) (items groups labels : List ℕ)
    → s.fits ≡ false → s.label_bytes ≤ room_of labels
    → WideAdvances 65535 (λ t. number_group text mode pool n t g) s s items groups labels items groups labels
full_stays text mode pool n g s items groups labels f h = record {
  holds = λ t before k.
      let z = leb-false (length t.labels) (room_of labels) (sym k.fits ∙ f) in
      let l = group_grows text mode pool n t g in
      record {
        fits = f ∙ sym (lt-leb (length (number_group text mode pool n t g).labels) (room_of labels) (omega arith));
        agrees = λ e. absurd (cc);
      };
  few = omega arith;
  room = h;
  long = refl;
}
