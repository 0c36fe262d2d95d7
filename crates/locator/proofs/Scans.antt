-- How far a value goes, step by step: on after a digit or a mark,
-- on after a whole run of Roman letters, and no further elsewhere.
use Prim.Native.Nat.{ℕ, ◌+◌, ◌-◌, ◌≤◌, ◌<◌}
use native.Mathlib.Omega.{arith}
use mathlib.Core.Path.{◌≡◌, refl, sym, ◌∙◌, ap}
use mathlib.Core.List.{List}
use lib.ListN.{length}
use mathlib.Core.Bool.{Bool, true, false, not}
use Rattle.std.proofs.lemmas.Bool.Decides.{nat_tests}
use Rattle.base.specs.First.{first}
use Rattle.base.specs.Lists.{byte_at}
use Rattle.base.proofs.Searches.{first_from, first_by, first_fails, first_pass, first_out, first_stop, first_more}
use Rattle.locator.specs.Locators.{is_letter, is_roman, is_digit_or_mark, letters_end, roman_end, in_value, value_run}
use Rattle.locator.specs.Steps.{GoesOn}

pub unnot : (b : Bool) → not b ≡ false → b ≡ true
unnot true h = refl
unnot false h = sym h

-- the end of a run of bytes that pass a test
abbrev run_of : (ℕ → Bool) → List ℕ → ℕ → ℕ → ℕ
run_of p s i e = first (λ k. not (p (byte_at s k))) (e - i) i

-- a Roman run that begins at `k` or before
module _ (s : List ℕ) (k e : ℕ) (h : k < e) where
  -- from each of its places on it ends where it does from `k` on
  ends_there : (p : ℕ → Bool) (x : ℕ) → k ≤ x → x < run_of p s k e → run_of p s k e ≡ run_of p s x e
  ends_there p x l g =
      let f : ℕ → Bool = λ j. not (p (byte_at s j)) in
      first_pass f k x e l (omega (arith, first_by f (e - k) k)) (λ y m n. first_fails f (e - k) k y m (omega arith))

  pub run_inside : roman_end s k e ≡ letters_end s k e → (x : ℕ) → k ≤ x → x < letters_end s k e → in_value s e x ≡ true
  unfolding in_value roman_end letters_end
  run_inside q x l g =
      let m : x < run_of is_roman s k e = rw q g in
      let r = unnot (is_roman (byte_at s x)) (first_fails (λ j. not (is_roman (byte_at s j))) (e - k) k x l m) in
      let u : run_of is_roman s x e ≡ run_of (λ b. is_letter b) s x e =
      sym (ends_there is_roman x l m) ∙ q ∙ ends_there (λ b. is_letter b) x l g in
      grind (arith, nat_tests, r, u)

  letters_by : letters_end s k e ≤ k + (e - k)
  unfolding letters_end
  letters_by = first_by (λ j. not (is_letter (byte_at s j))) (e - k) k

  -- a Roman letter is passed
  roman_some : is_roman (byte_at s k) ≡ true → k < roman_end s k e
  unfolding roman_end
  roman_some t =
      let f : ℕ → Bool = λ j. not (is_roman (byte_at s j)) in
      omega (arith, first_more f k e {w = first f (e - k) k} refl h (ap not t), first_from f (e - (k + 1)) (k + 1))

-- the step of a value that has reached `k`, in a text that ends where the locator does
module _ (s : List ℕ) (k : ℕ) where
  abbrev ends : ℕ → Bool
  ends j = not (in_value s (length s) j)

  pub step_out : length s ≤ k → value_run s k (length s) ≡ k
  unfolding value_run
  step_out h = sym (first_out ends k (length s) refl h)

  -- inside, where its byte is `b`
  module _ {b : ℕ} (h : k < length s) (q : b ≡ byte_at s k) where
    -- after a digit or a mark it goes on
    pub step_byte : true ≡ is_digit_or_mark b → GoesOn s k (k + 1)
    unfolding value_run in_value
    step_byte t = (omega arith, omega arith, first_more ends k (length s) {w = value_run s k (length s)} refl h (rw (← q, ← t) refl))

    module _ {n : ℕ} (z : n ≡ roman_end s k (length s)) where
      -- after letters that are all Roman
      pub step_letters : k < n → letters_end s k (length s) ≡ n → GoesOn s k n
      unfolding value_run
      step_letters l r =
          let e = length s in
          let g : n ≤ e = omega (arith, letters_by s k e h, r) in
          (l, g, first_pass ends k n e (omega arith) g (λ x m y. ap not (run_inside s k e h (sym z ∙ sym r) x m (rw r y))))

      -- elsewhere it ends
      pub step_stops : false ≡ is_digit_or_mark b → (k < n → letters_end s k (length s) ≡ n → ⊥) → value_run s k (length s) ≡ k
      unfolding value_run in_value
      step_stops t u =
          sym (first_stop ends k (length s) refl h (grind (arith, nat_tests, q, t, z, u, roman_some s k (length s) h)))
