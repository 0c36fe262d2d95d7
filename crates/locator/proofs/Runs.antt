-- THEOREMS `RunsWhole` and `RulesPart`: which runs of letters a value takes in,
-- and where it is not the Rust's.
use Prim.Native.Nat.{ℕ, ◌-◌, ◌≤◌, ◌<◌}
use native.Mathlib.Omega.{arith}
use mathlib.Core.Path.{◌≡◌, refl, sym, ◌∙◌, ap}
use mathlib.Core.Logic.{◌⊎◌, inl, inr}
use mathlib.Core.List.{List}
use mathlib.Core.Bool.{Bool, true, false, ◌&&◌, ◌||◌, not, true≢false}
use lib.Dec.{eqb, ltb}
use borrow.Author.Tests.{eqb-false, ltb-true, ltb-false}
use Rattle.std.proofs.lemmas.Bool.Decides.{nat_tests}
use Rattle.base.specs.First.{first}
use Rattle.base.specs.Lists.{byte_at}
use Rattle.base.proofs.Searches.{first_from, first_by, first_holds, first_before, first_fails}
use Rattle.locator.specs.Locators.{is_letter, is_roman, is_digit_or_mark, letters_end, roman_end, in_value, value_run}
use Rattle.locator.specs.Facts.{is_value, OtherRun, RunWhole, RunsWhole, old_run, Cut, RulesPart}
use Rattle.locator.proofs.Parts.{run_from, run_by}
use Rattle.locator.proofs.Scans.{unnot, run_inside}

not_true : (b : Bool) → not b ≡ true → b ≡ false
not_true true h = sym h
not_true false h = refl

-- a Roman letter is a letter; a digit or mark is none
roman_letter : (b : ℕ) → is_roman b ≡ true → is_letter b ≡ true
unfolding is_roman
roman_letter b h = grind (arith, nat_tests)

mark_letter : (b : ℕ) → is_digit_or_mark b ≡ true → is_letter b ≡ false
unfolding is_digit_or_mark
mark_letter b h = grind (arith, nat_tests)

letter_mark : (b : ℕ) → is_letter b ≡ true → is_digit_or_mark b ≡ false
letter_mark b h = grind (arith, mark_letter b)

-- a byte that is in a value, and one of a run that is not
module _ (s : List ℕ) (e k : ℕ) where
  in_value_lem : in_value s e k ≡ true → is_value (byte_at s k) ≡ true
  unfolding in_value is_value
  in_value_lem h = grind arith

  in_run : in_value s e k ≡ true → is_letter (byte_at s k) ≡ true → roman_end s k e ≡ letters_end s k e
  unfolding in_value
  in_run h l = grind (arith, nat_tests, letter_mark (byte_at s k) l)

  other_value : is_letter (byte_at s k) ≡ true → is_roman (byte_at s k) ≡ false → is_value (byte_at s k) ≡ false
  unfolding is_value
  other_value l r = rw (letter_mark _ l, r) refl

-- letters up to `j` are passed
letters_past : (s : List ℕ) (k j e : ℕ) → k ≤ j → j < e → ((x : ℕ) → k ≤ x → x ≤ j → is_letter (byte_at s x) ≡ true) → j < letters_end s k e
unfolding letters_end
letters_past s k j e l h n =
    let f : ℕ → Bool = λ x. not (is_letter (byte_at s x)) in
    grind (arith, nat_tests, n (first f (e - k) k), first_from f (e - k) k, first_holds f (e - k) k)

-- where a byte that no value may have, or a run that has another letter, stands
module _ (s : List ℕ) (e k : ℕ) (h : k < e) (n : in_value s e k ≡ false) where
  other_run : is_roman (byte_at s k) ≡ true → (roman_end s k e ≡ letters_end s k e → ⊥) → OtherRun s e k
  unfolding roman_end letters_end
  other_run r u = record {
    at = q;
    from = first_from R (e - k) k;
    before = omega (arith, less, first_by L (e - k) k);
    letters = λ x m g. unnot _ (first_fails L (e - k) k x m (omega (arith, less)));
    other = not_true _ (first_holds R (e - k) k (omega (arith, less, first_by L (e - k) k)));
  }
    where
      R : ℕ → Bool
      R x = not (is_roman (byte_at s x))

      L : ℕ → Bool
      L x = not (is_letter (byte_at s x))

      q : ℕ
      q = first R (e - k) k

      z : ℕ
      z = first L (e - k) k

      no_roman : is_letter (byte_at s z) ≡ false → R z ≡ true
      no_roman l = grind (arith, roman_letter (byte_at s z))

      less : q < z
      less =
          grind (arith, u, first_before R (e - k) k z (first_from L (e - k) k), no_roman, first_holds L (e - k) k, first_by R (e - k) k, first_from L (e - k) k)

  ends_there : (is_value (byte_at s k) ≡ false) ⊎ OtherRun s e k
  unfolding is_value in_value
  ends_there = go (is_digit_or_mark (byte_at s k)) (is_roman (byte_at s k)) (eqb (roman_end s k e) (letters_end s k e)) refl refl n
    where
      go : (m r t : Bool) → is_roman (byte_at s k) ≡ r → eqb (roman_end s k e) (letters_end s k e) ≡ t → m || (r && t) ≡ false
          → (m || r ≡ false) ⊎ OtherRun s e k
      go true r t p q g = absurd (true≢false g)
      go false false t p q g = inl refl
      go false true true p q g = absurd (true≢false g)
      go false true false p q g = inr (other_run p (eqb-false _ _ q))

pub runs_whole : RunsWhole
unfolding value_run
runs_whole s v e = record {
  uncut = λ l h b. go h l b (is_letter (byte_at s r)) refl;
  values = λ k l h. in_value_lem s e k (unnot _ (first_fails f (e - v) v k l h));
  ends = λ h. ends_there s e r h (stopped h);
}
  where
    f : ℕ → Bool
    f k = not (in_value s e k)

    r : ℕ
    r = first f (e - v) v

    stopped : r < e → in_value s e r ≡ false
    stopped h = not_true _ (first_holds f (e - v) v (omega (arith, first_from f (e - v) v)))

    go : r < e → v < r → is_letter (byte_at s (r - 1)) ≡ true → (t : Bool) → is_letter (byte_at s r) ≡ t → t ≡ false
    go h l b false q = refl
    go h l b true q =
        let i : in_value s e (r - 1) ≡ true = unnot _ (first_fails f (e - v) v (r - 1) (omega arith) (omega arith)) in
        let g = letters_past s (r - 1) r e (omega arith) h (λ x m n. grind (arith, nat_tests, b, q)) in
        absurd (true≢false (sym (run_inside s (r - 1) e (omega arith) (in_run s e (r - 1) i b) r (omega arith) g) ∙ stopped h))

-- a value ends by every byte that no value may have
ends_by : (s : List ℕ) (v e z : ℕ) → v ≤ z → is_value (byte_at s z) ≡ false → value_run s v e ≤ z
unfolding value_run
ends_by s v e z l n = grind (arith, in_value_lem s e z, first_before (λ k. not (in_value s e k)) (e - v) v z l)

pub rules_part : RulesPart
unfolding old_run
rules_part s v e = go (ltb new old) refl
  where
    f : ℕ → Bool
    f k = not (is_value (byte_at s k))

    old : ℕ
    old = first f (e - v) v

    new : ℕ
    new = value_run s v e

    w : RunWhole s v e new
    w = runs_whole s v e

    run_start : v ≤ new
    run_start = run_from s v e

    longest : new ≤ old
    longest = grind (arith, ends_by s v e old (first_from f (e - v) v), first_holds f (e - v) v, run_by s v e)

    parts : new < old → (is_value (byte_at s new) ≡ false) ⊎ OtherRun s e new → Cut s v e old
    parts h (inl n) = absurd (true≢false (sym (unnot _ (first_fails f (e - v) v new run_start h)) ∙ n))
    parts h (inr o) =
        let g = first_before f (e - v) v o.at (omega (arith, run_start, o.from)) (ap not (other_value s e o.at (o.letters o.at o.from (omega arith)) o.other)) in
        let a = run_start in
        let b = o.before in
        (omega arith, omega arith, o.letters (old - 1) (omega arith) (omega arith), o.letters old (omega arith) g)

    go : (t : Bool) → ltb new old ≡ t → ((old ≡ new) × (Cut s v e old → ⊥)) ⊎ ((new < old) × Cut s v e old)
    go true q =
        let h = ltb-true new old q in
        inr (h, parts h (w.ends (omega (arith, first_by f (e - v) v, run_start))))
    go false q =
        let h = ltb-false new old q in
        let z : old ≡ new = omega (arith, longest) in
        inl (z, (λ c. true≢false (sym c.3 ∙ rw z (w.uncut (rw (← z) c.0) (rw (← z) c.1) (rw (← z) c.2)))))
