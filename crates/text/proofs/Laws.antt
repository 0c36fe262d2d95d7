-- Escapes, and the ends of trimmed stretches,
-- unrolled at a place.
use Prim.Native.Nat.{ℕ, zero, suc, ◌+◌, ◌-◌, ◌%◌, ◌<◌}
use native.Mathlib.Omega.{arith}
use mathlib.Core.Path.{◌≡◌, refl, sym, ◌∙◌, ap}
use mathlib.Core.List.{List}
use mathlib.Core.Bool.{Bool, true, false, ◌&&◌, not}
use lib.Dec.{eqb, ltb}
use borrow.Author.Tests.{eq-eqb, ne_eqb, eqb-true, eqb-false, lt-ltb, le-ltb}
use Rattle.base.specs.Pick.{pick}
use Rattle.base.specs.Lists.{byte_at}
use Rattle.base.specs.First.{first}
use Rattle.base.specs.Last.{last_end}
use Rattle.base.proofs.Searches.{first_stop}
use Rattle.base.proofs.Lasts.{last_end_stop, last_end_more}
use Rattle.text.specs.Escape.{slashes, escaped_at}
use Rattle.white.specs.White.{is_white}
use Rattle.text.specs.Trim.{trim_start, trim_end}

-- escape -------------------------------------------------------------------------------------------------------------------------

-- the run of backslashes before `at` begins after the last other byte
slashes_are : (s : List ℕ) (at : ℕ) → last_end (λ i. not (eqb (byte_at s i) 92)) at 0 0 + slashes s at ≡ at
unfolding slashes last_end
slashes_are s zero = refl
slashes_are s (suc i) = let z : 0 + i ≡ i = omega arith in rw z (go (eqb (byte_at s i) 92) (slashes_are s i))
  where
    go : (t : Bool) → last_end (λ i. not (eqb (byte_at s i) 92)) i 0 0 + slashes s i ≡ i
        → pick (not t) (suc i) (last_end (λ i. not (eqb (byte_at s i) 92)) i 0 0) + pick t (suc (slashes s i)) 0 ≡ suc i
    go true p = omega arith
    go false p = omega arith

pub slashes_after : (s : List ℕ) (at : ℕ) {r : ℕ} → r ≡ last_end (λ i. not (eqb (byte_at s i) 92)) (at - 0) 0 0 → r + slashes s at ≡ at
slashes_after s at p = let z : at - 0 ≡ at = omega arith in rw p (rw z (slashes_are s at))

-- a place is escaped exactly where an unescaped backslash stands just before it
pub escaped_next : (s : List ℕ) (i : ℕ) → escaped_at s (suc i) ≡ (eqb (byte_at s i) 92 && not (escaped_at s i))
unfolding escaped_at slashes
escaped_next s i = go (eqb (byte_at s i) 92)
  where
    odd : (n : ℕ) (t : Bool) → eqb (n % 2) 1 ≡ t → eqb (suc n % 2) 1 ≡ not t
    odd n true p = let q = eqb-true (n % 2) 1 p in ne_eqb (suc n % 2) 1 (omega arith)
    odd n false p = let q = eqb-false (n % 2) 1 p in eq-eqb (suc n % 2) 1 (omega arith)

    go : (t : Bool) → eqb (pick t (suc (slashes s i)) 0 % 2) 1 ≡ (t && not (eqb (slashes s i % 2) 1))
    go true = odd (slashes s i) (eqb (slashes s i % 2) 1) refl
    go false = refl

-- trims --------------------------------------------------------------------------------------------------------------------------

pub start_stop : (s : List ℕ) (i e : ℕ) {w : ℕ} → w ≡ trim_start s i e → {b : Bool} → i < e → b ≡ is_white s i → b ≡ false → i ≡ w
unfolding trim_start
start_stop s i e p h q f = first_stop (λ k. not (is_white s k)) i e p h (ap not (sym q ∙ f))

module _ (s : List ℕ) (a i : ℕ) {w : ℕ} (p : w ≡ trim_end s a i) where
  pub end_stop : {b : Bool} → a < i → b ≡ is_white s (i - 1) → b ≡ false → i ≡ w
  unfolding trim_end
  end_stop h q f = last_end_stop (λ k. not (is_white s k)) a i a p h (ap not (sym q ∙ f))

  pub end_more : {b : Bool} → a < i → b ≡ is_white s (i - 1) → b ≡ true → w ≡ trim_end s a (i - 1)
  unfolding trim_end
  end_more h q t = last_end_more (λ k. not (is_white s k)) a i a p h (ap not (sym q ∙ t))

-- a byte is white where a trimmed stretch of this byte alone begins after it
pub white_one_lem : (s : List ℕ) (i : ℕ) → ltb i (trim_start s i (i + 1)) ≡ is_white s i
unfolding trim_start first
white_one_lem s i = let z : i + 1 - i ≡ 1 = omega arith in rw z (go (is_white s i))
  where
    go : (t : Bool) → ltb i (pick (not t) i (i + 1)) ≡ t
    go true = lt-ltb i (i + 1) (omega arith)
    go false = le-ltb i i (omega arith)
