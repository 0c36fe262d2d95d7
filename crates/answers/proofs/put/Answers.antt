-- The answers of `answers::put`:
-- the numbers are as many as the front that they are copied to.
use Rattle.std.proofs.Common.{ℕ, ◌≤◌, ◌≡◌, refl, sym, ◌∙◌, ap, List, ◌++◌, length, take, drop}
use lib.Seq.{length-take-le}
use Rattle.base.specs.Lists.{written}
use Rattle.answers.proofs.put.Goals as goal

front : (n : ℕ) (s numbers : List ℕ) {new : List ℕ} → n ≤ length s → length new ≡ length (take n s) → new ≡ numbers → new ++ drop n s ≡ written numbers s
unfolding written
front n s numbers h l e = let k : length numbers ≡ n = sym (ap length e) ∙ l ∙ length-take-le n s h in rw (e, k) refl

pub returns : goal.returns
returns g c = front _ _ _ c.requires c.copy_from_slice.ensures.len c.copy_from_slice.ensures.after
