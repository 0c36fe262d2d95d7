-- The place of a rank among numbers that are in order,
-- found by halves.
use Prim.Native.Nat.{ℕ, ◌+◌, ◌≤◌, ◌<◌}
use native.Mathlib.Omega.{arith}
use mathlib.Core.Path.{◌≡◌, refl, sym, ◌∙◌}
use mathlib.Core.List.{List}
use mathlib.Core.Bool.{Bool, true, false, not, true≢false}
use lib.ListN.{length, get_or, take}
use lib.Seq.{get_or-take, length-take-le, take-length}
use lib.Dec.{ltb}
use borrow.Author.Tests.{ltb-true, ltb-false}
use Rattle.base.specs.First.{first}
use Rattle.base.proofs.Searches.{first_by, first_holds, first_before, first_shift}
use Rattle.order.specs.Order.{less}
use Rattle.order.specs.Ordered.{greater_at, Rising, SortedBy}
use Rattle.order.proofs.Sorting.{sorted_rises}

-- the first place where a test holds that holds from there on is after each place where it does not
after_failed : (f : ℕ → Bool) (c x : ℕ) → Rising f c → x < c → f x ≡ false → x + 1 ≤ first f c 0
after_failed f c x r h e = go (ltb x (first f c 0)) refl
  where
    go : (t : Bool) → ltb x (first f c 0) ≡ t → x + 1 ≤ first f c 0
    go true q = let l = ltb-true x (first f c 0) q in omega arith
    go false q =
        let l = ltb-false x (first f c 0) q in
        absurd (true≢false (sym (r (first f c 0) x l h (first_holds f c 0 (omega arith))) ∙ e))

module _ (rank : ℕ → List ℕ) (bytes numbers : List ℕ) (c : ℕ) where
  greater_is : (x : ℕ) {b t : Bool} → b ≡ not (less bytes (rank (get_or numbers x 0))) → b ≡ not t → greater_at rank bytes numbers x ≡ t
  unfolding greater_at
  greater_is x {b} {t} q e = go (less bytes (rank (get_or numbers x 0))) t (sym q ∙ e)
    where
      go : (u t : Bool) → not u ≡ not t → u ≡ t
      go true true e = refl
      go true false e = sym e
      go false true e = sym e
      go false false e = refl

  pub half_below : (x : ℕ) {b : Bool} → b ≡ not (less bytes (rank (get_or numbers x 0))) → b ≡ false → first (greater_at rank bytes numbers) c 0 ≤ x
  half_below x q t = first_before (greater_at rank bytes numbers) c 0 x (omega arith) (greater_is x {t = true} q t)

  pub half_above : (x : ℕ) {b : Bool} → Rising (greater_at rank bytes numbers) c → x < c → b ≡ not (less bytes (rank (get_or numbers x 0))) → b ≡ true
      → x + 1 ≤ first (greater_at rank bytes numbers) c 0
  half_above x r h q t = after_failed (greater_at rank bytes numbers) c x r h (greater_is x {t = false} q t)

  pub half_start : first (greater_at rank bytes numbers) c 0 ≤ c
  half_start = omega (arith, first_by (greater_at rank bytes numbers) c 0)

  pub half_end : {low high : ℕ} → low ≤ first (greater_at rank bytes numbers) c 0 → first (greater_at rank bytes numbers) c 0 ≤ high → high ≤ low
      → low ≡ first (greater_at rank bytes numbers) c 0
  half_end a b h = omega arith

pub ruleset half_laws = (half_start, half_end)

-- the numbers in order are the front of an area
pub front_rising : (rank : ℕ → List ℕ) (bytes l : List ℕ) → SortedBy rank l → Rising (greater_at rank bytes l) (length l)
front_rising rank bytes l s = sorted_rises rank bytes l (length l) (omega arith) (rw take-length s)

module _ (rank : ℕ → List ℕ) (bytes numbers : List ℕ) (c : ℕ) (h : c ≤ length numbers) where
  front_greater : (x : ℕ) → x < 0 + c → greater_at rank bytes (take c numbers) x ≡ greater_at rank bytes numbers (x + 0)
  unfolding greater_at
  front_greater x l =
      let z : x + 0 ≡ x = omega arith in
      let e : get_or (take c numbers) x 0 ≡ get_or numbers x 0 = get_or-take c numbers x 0 (omega arith) in
      rw (z, e) refl

  pub front_first : {p : ℕ} → p ≡ first (greater_at rank bytes (take c numbers)) (length (take c numbers)) 0
      → p ≡ first (greater_at rank bytes numbers) c 0
  front_first q =
      let n : length (take c numbers) ≡ c = length-take-le c numbers h in
      let e = first_shift (greater_at rank bytes (take c numbers)) (greater_at rank bytes numbers) 0 c 0 front_greater in
      rw n at q ∙ omega (arith, e)

  pub front_within : {p : ℕ} → p ≤ length (take c numbers) → p ≤ c
  front_within l = omega (arith, length-take-le c numbers h)
