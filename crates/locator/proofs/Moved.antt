-- A locator in two lists of bytes: where those of `t` before `e` are those of `s` from `d` on,
-- it is the same, moved.
use Prim.Native.Nat.{ℕ, ◌+◌, ◌-◌, ◌≤◌, ◌<◌}
use native.Mathlib.Omega.{arith}
use mathlib.Core.Path.{◌≡◌, refl, ap}
use mathlib.Core.List.{List, [], ◌∷◌}
use mathlib.Core.Bool.{Bool, not}
use lib.ListN.{length}
use lib.Dec.{eqb, leb, ltb}
use Rattle.std.proofs.lemmas.Bool.Decides.{nat_tests}
use Rattle.base.specs.Lists.{byte_at}
use Rattle.base.specs.First.{first}
use Rattle.base.specs.Last.{last_end}
use Rattle.base.specs.Spans.{span_of}
use Rattle.base.proofs.Searches.{first_by, first_shift}
use Rattle.base.proofs.Lasts.{last_end_shift}
use Rattle.locator.specs.declared.Label.{Label}
use Rattle.std.specs.Prelude.{Option, Some, None}
use Rattle.locator.specs.declared.Term.{Term}
use Rattle.locator.specs.Matchers.{Matcher, matchers}
use Rattle.locator.specs.Locators.{is_blank, skip_blanks, fits, is_sign, may_follow, label, stands, match_in, or_page, label_of, is_letter, is_roman, letters_end, roman_end, in_value, value_run, is_loose, value_end, valued, labelled, locator_from, locator_of}
use Rattle.locator.specs.Moved.{moved_span, moved_locator}

-- tests and searches ---------------------------------------------------------------------------------------------------------------------

module _ (d : ℕ) where
  pub ltb_move : (x y : ℕ) → ltb (x + d) (y + d) ≡ ltb x y
  ltb_move x y = grind (arith, nat_tests)

  pub leb_move : (x y : ℕ) → leb (x + d) (y + d) ≡ leb x y
  leb_move x y = grind (arith, nat_tests)

  pub eqb_move : (x y : ℕ) → eqb (x + d) (y + d) ≡ eqb x y
  eqb_move x y = grind (arith, nat_tests)

  pub span_move : (x y : ℕ) → span_of (x + d) (y + d) ≡ moved_span d (span_of x y)
  unfolding span_of moved_span
  span_move x y = grind (arith, nat_tests)

  -- a search up to `y`, for a test that agrees below `e`
  pub first_move : (f g : ℕ → Bool) (e x y : ℕ) → y ≤ e → ((z : ℕ) → z < e → f z ≡ g (z + d)) → first g (y + d - (x + d)) (x + d) ≡ first f (y - x) x + d
  unfolding first
  first_move f g e x y h same = grind (arith, first_shift f g d (y - x) x)

-- the locator ----------------------------------------------------------------------------------------------------------------------------

module _ (s t : List ℕ) (d e : ℕ) (same : (j : ℕ) → j < e → byte_at t j ≡ byte_at s (j + d)) where
  skip_move : (x y : ℕ) → y ≤ e → skip_blanks s (x + d) (y + d) ≡ skip_blanks t x y + d
  unfolding skip_blanks
  skip_move x y h =
      first_move d (λ k. not (is_blank (byte_at t k))) (λ k. not (is_blank (byte_at s k))) e x y h (λ z l. ap (λ b. not (is_blank b)) (same z l))

  fits_move : (w : List ℕ) (i y : ℕ) → y ≤ e → fits w s (i + d) (y + d) ≡ fits w t i y
  unfolding fits
  fits_move [] i y h = refl
  fits_move (x ∷ xs) i y h = grind (arith, nat_tests, same i, ltb_move d i y, fits_move xs (i + 1) y h)

  sign_move : (k y : ℕ) → y ≤ e → is_sign s (k + d) (y + d) ≡ is_sign t k y
  unfolding is_sign
  sign_move k y h = grind (arith, nat_tests, same k, same (k + 1), ltb_move d (k + 1) y)

  follow_move : (k y : ℕ) → y ≤ e → may_follow s (k + d) (y + d) ≡ may_follow t k y
  unfolding may_follow
  follow_move k y h = grind (arith, nat_tests, same k, sign_move k y h, leb_move d y k)

  stands_move : (m : Matcher) (i y : ℕ) → y ≤ e → stands m s (i + d) (y + d) ≡ stands m t i y
  unfolding stands
  stands_move m i y h =
      let z : i + d + length m.word ≡ i + length m.word + d = omega arith in
      rw (z, fits_move m.word i y h, follow_move (i + length m.word) y h) refl

  abbrev moved_label : Option Label → Option Label
  moved_label (Some l) = Some (label l.term (l.after + d))
  moved_label None = None

  match_move : (ms : List Matcher) (i y : ℕ) → y ≤ e → match_in ms s (i + d) (y + d) ≡ moved_label (match_in ms t i y)
  unfolding match_in
  match_move [] i y h = refl
  match_move (m ∷ ms) i y h = grind (arith, stands_move m i y h, match_move ms i y h)

  label_move : (i y : ℕ) → y ≤ e → i < y → label_of s (i + d) (y + d) ≡ moved_label (label_of t i y)
  unfolding label_of or_page
  label_move i y h l = grind (arith, same i, match_move matchers i y h)

  letters_move : (k y : ℕ) → y ≤ e → letters_end s (k + d) (y + d) ≡ letters_end t k y + d
  unfolding letters_end
  letters_move k y h =
      first_move d (λ j. not (is_letter (byte_at t j))) (λ j. not (is_letter (byte_at s j))) e k y h (λ z l. ap (λ b. not (is_letter b)) (same z l))

  roman_move : (k y : ℕ) → y ≤ e → roman_end s (k + d) (y + d) ≡ roman_end t k y + d
  unfolding roman_end
  roman_move k y h =
      first_move d (λ j. not (is_roman (byte_at t j))) (λ j. not (is_roman (byte_at s j))) e k y h (λ z l. ap (λ b. not (is_roman b)) (same z l))

  in_move : (y z : ℕ) → y ≤ e → z < e → in_value t y z ≡ in_value s (y + d) (z + d)
  unfolding in_value
  in_move y z h l = rw (letters_move z y h, roman_move z y h, eqb_move d (roman_end t z y) (letters_end t z y), same z l) refl

  -- how far a value goes: the law to prove anew where that rule changes
  run_move : (v y : ℕ) → y ≤ e → value_run s (v + d) (y + d) ≡ value_run t v y + d
  unfolding value_run
  run_move v y h = first_move d (λ k. not (in_value t y k)) (λ k. not (in_value s (y + d) k)) e v y h (λ z l. ap not (in_move y z h l))

  run_by : (v y : ℕ) → v < value_run t v y → value_run t v y ≤ y
  unfolding value_run
  run_by v y h = omega (arith, first_by (λ k. not (in_value t y k)) (y - v) v)

  value_move : (v run : ℕ) → (v < run → run ≤ e) → value_end s (v + d) (run + d) ≡ value_end t v run + d
  unfolding value_end last_end
  value_move v run h = grind (arith, nat_tests, same, last_end_shift (λ k. not (is_loose (byte_at t k))) (λ k. not (is_loose (byte_at s k))) d (run - v) v v)

  valued_move : (c : Term) (v y : ℕ) → y ≤ e → valued s c (v + d) (y + d) ≡ moved_locator d (valued t c v y)
  unfolding valued
  valued_move c v y h =
      let run = value_run t v y in
      rw (run_move v y h, value_move v run (λ l. let k = run_by v y l in omega arith), skip_move run y h, span_move d v (value_end t v run), span_move d (skip_blanks t run y) y) refl

  labelled_move : (i y : ℕ) (m : Option Label) → y ≤ e → labelled s (i + d) (y + d) (moved_label m) ≡ moved_locator d (labelled t i y m)
  unfolding labelled
  labelled_move i y None h = rw (span_move d i y) refl
  labelled_move i y (Some l) h = rw (skip_move l.after y h, valued_move l.term (skip_blanks t l.after y) y h) refl

  from_move : (i y : ℕ) → y ≤ e → locator_from s (i + d) (y + d) ≡ moved_locator d (locator_from t i y)
  unfolding locator_from
  from_move i y h = grind (arith, nat_tests, leb_move d y i, label_move i y h, labelled_move i y (label_of t i y) h)

  pub locator_move : (x y : ℕ) → y ≤ e → locator_of s (x + d) (y + d) ≡ moved_locator d (locator_of t x y)
  unfolding locator_of
  locator_move x y h = rw (skip_move x y h) (from_move (skip_blanks t x y) y h)
