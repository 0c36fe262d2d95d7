-- The label at a place: page or a matcher's,
-- and where what follows it begins.
use Prim.Native.Nat.{ℕ, ◌+◌, ◌≤◌}
use native.Mathlib.Omega.{arith}
use mathlib.Core.Path.{◌≡◌, refl, sym}
use mathlib.Core.List.{List, [], ◌∷◌}
use mathlib.Core.Bool.{Bool, true, false, ◌&&◌, true≢false}
use lib.ListN.{length, get_or}
use lib.Dec.{ltb}
use Rattle.std.proofs.lemmas.Option.{none-some}
use Rattle.std.proofs.lemmas.Bool.Decides.{nat_tests}
use Rattle.base.specs.Ascii.{ascii}
use Rattle.base.specs.Lists.{byte_at}
use Rattle.base.proofs.Bools.{and_left}
use Rattle.locator.specs.declared.Label.{Label}
use Rattle.std.specs.Prelude.{Some, None}
use Rattle.locator.specs.declared.Term.TheVariants.{Page}
use Rattle.locator.specs.Matchers.{Matcher, matchers}
use Rattle.locator.specs.Locators.{is_digit, lower, fits, may_follow, label, stands, match_in, or_page, label_of}
use Rattle.locator.proofs.Words.{fits_by}

-- a digit is its own small form
digit_lower : (b : ℕ) → is_digit b ≡ true → lower b ≡ b
unfolding lower
digit_lower b t = grind (arith, nat_tests)

-- every word of a table begins above the digits
begins_above : List Matcher → Bool
begins_above [] = true
begins_above (m ∷ ms) = ltb 57 (get_or m.word 0 0) && begins_above ms

fits_no_digit : (w s : List ℕ) (i e : ℕ) → ltb 57 (get_or w 0 0) ≡ true → is_digit (byte_at s i) ≡ true → fits w s i e ≡ false
unfolding fits
fits_no_digit [] s i e h t = absurd (true≢false (sym h))
fits_no_digit (x ∷ xs) s i e h t = grind (arith, nat_tests, digit_lower (byte_at s i) t)

match_no_digit
    : (ms : List Matcher) (s : List ℕ) (i e : ℕ) → begins_above ms ≡ true → is_digit (byte_at s i) ≡ true → match_in ms s i e ≡ None
unfolding match_in stands begins_above
match_no_digit [] s i e h t = refl
match_no_digit (m ∷ ms) s i e h t = grind (arith, fits_no_digit m.word s i e, match_no_digit ms s i e)

matchers_above : begins_above matchers ≡ true
unfolding begins_above matchers ascii
matchers_above = refl

module _ (s : List ℕ) (i e : ℕ) where
  pub label_digit : is_digit (byte_at s i) ≡ true → Some (label Page i) ≡ label_of s i e
  unfolding label_of or_page
  label_digit d = rw (match_no_digit matchers s i e matchers_above d, d) refl

  pub label_other : is_digit (byte_at s i) ≡ false → match_in matchers s i e ≡ label_of s i e
  unfolding label_of or_page
  label_other d = grind (arith, d)

-- what follows a label begins by the end
stands_by_end : (m : Matcher) (s : List ℕ) (i e : ℕ) → i ≤ e → stands m s i e ≡ true → i + length m.word ≤ e
unfolding stands
stands_by_end m s i e h t = fits_by m.word s i e h (and_left (fits m.word s i e) (may_follow s (i + length m.word) e) t)

match_by : (ms : List Matcher) (s : List ℕ) (i e : ℕ) {l : Label} → i ≤ e → match_in ms s i e ≡ Some l → l.after ≤ e
unfolding match_in
match_by [] s i e h q = absurd (none-some _ q)
match_by (m ∷ ms) s i e {l} h q = grind (arith, match_by ms s i e {l = l} h, stands_by_end m s i e h)

pub label_by_lem : (s : List ℕ) (i e : ℕ) {l : Label} → i ≤ e → label_of s i e ≡ Some l → l.after ≤ e
unfolding label_of or_page
label_by_lem s i e {l} h q = grind (arith, match_by matchers s i e {l = l} h)
