-- Laws on the scan for a close: its steps, unrolled at a place,
-- and what callers need to know of a close.
use Prim.Native.Nat.{ℕ, zero, suc, ◌+◌, ◌-◌, ◌≤◌, ◌<◌, min}
use native.Mathlib.Omega.{arith}
use mathlib.Core.Path.{◌≡◌, refl, sym, ◌∙◌, ap, subst}
use mathlib.Core.List.{List}
use mathlib.Core.Bool.{Bool, true, false}
use lib.ListN.{length}
use lib.Dec.{eqb}
use borrow.Author.Tests.{eq-eqb, ne_eqb, eqb-true, eqb-false}
use Rattle.base.specs.Pick.{pick}
use Rattle.base.specs.Lists.{byte_at}
use Rattle.close.specs.declared.Depth.{Depth}
use Rattle.std.specs.Prelude.{Some, None}
use Rattle.close.specs.Scan.{depth, step_of, close_in, scan_from, close_within, close_of}
use Rattle.close.specs.Facts.{ShortAgrees, ShortNone}

-- what holds of each case of a step holds of the step; only a `]` takes 1 off
step_cases : (P : Depth → Type 0) (d : Depth) (b : ℕ) → ((e : Bool) → P (depth d.nest e)) → P (depth (d.nest + 1) false)
    → (b ≡ 93 → P (depth (d.nest - 1) false)) → P (step_of d b)
unfolding step_of
step_cases P d b same up down = go d.pass (eqb b 92) (eqb b 91) (eqb b 93) refl
  where
    n : ℕ
    n = d.nest

    go : (p x y z : Bool) → eqb b 93 ≡ z
        → P (pick p (depth n false) (pick x (depth n true) (pick y (depth (n + 1) false) (pick z (depth (n - 1) false) (depth n false)))))
    go true x y z q = same false
    go false true y z q = same true
    go false false true z q = up
    go false false false true q = down (eqb-true b 93 q)
    go false false false false q = same false

-- one byte goes at most one deeper
pub step_le : (d : Depth) (b : ℕ) → (step_of d b).nest ≤ d.nest + 1
step_le d b = step_cases (λ e. e.nest ≤ d.nest + 1) d b (λ e. omega arith) (omega arith) (λ q. omega arith)

-- one byte that leaves depth 0 is a `]`
pub step_ends : (d : Depth) (b : ℕ) → 0 < d.nest → (step_of d b).nest ≡ 0 → b ≡ 93
step_ends d b h = step_cases (λ e. e.nest ≡ 0 → b ≡ 93) d b (λ e z. absurd (omega arith)) (λ z. absurd (omega arith)) (λ q z. q)

-- the scan up to `end`, unrolled at the place `i` in the depth `d`
module _ (s : List ℕ) (i end : ℕ) (d : Depth) where
  left : i < end → end - i ≡ suc (end - (i + 1))
  left h = omega arith

  pub found : i < end → (step_of d (byte_at s i)).nest ≡ 0 → close_in (end - i) s i d ≡ Some i
  unfolding close_in
  found h z = rw (left h, eq-eqb _ _ z)

  pub further : i < end → ((step_of d (byte_at s i)).nest ≡ 0 → ⊥)
      → close_in (end - i) s i d ≡ close_in (end - (i + 1)) s (i + 1) (step_of d (byte_at s i))
  unfolding close_in
  further h z = rw (left h, ne_eqb _ _ z)

  pub ended : end ≤ i → close_in (end - i) s i d ≡ None
  unfolding close_in
  ended h = let z : end - i ≡ 0 = omega arith in rw z

pub close_start : (s : List ℕ) (at limit : ℕ)
    → close_within limit s at ≡ close_in (at + min limit (length s - at) - (at + 1)) s (at + 1) (depth 1 false)
unfolding close_within scan_from
close_start s at limit = ap (λ (m : ℕ). close_in m s (at + 1) (depth 1 false)) (omega arith)

pub ruleset laws = (found, further, ended, close_start, step_le)

-- For callers. Two answers are the same only if their places are.
pub at_inj : {a b : ℕ} → Some a ≡ Some b → a ≡ b
at_inj p = cc

pub at_nothing : {a : ℕ} → Some a ≡ None → ⊥
at_nothing p = let z : ◌≡◌ {A = ℕ} 0 1 = cc in omega arith

-- A scan that found a close finds it with more bytes to see, too.
close_more : (n m : ℕ) (s : List ℕ) (i : ℕ) (d : Depth) (k : ℕ) → close_in n s i d ≡ Some k → n ≤ m → close_in m s i d ≡ Some k
unfolding close_in
close_more zero m s i d k h g = absurd (at_nothing (sym h))
close_more (suc n) zero s i d k h g = absurd (omega arith)
close_more (suc n) (suc m) s i d k h g =
    go (eqb (step_of d (byte_at s i)).nest 0) (λ e. close_more n m s (i + 1) (step_of d (byte_at s i)) k e (omega arith)) h
  where
    go : (b : Bool) → (close_in n s (i + 1) (step_of d (byte_at s i)) ≡ Some k → close_in m s (i + 1) (step_of d (byte_at s i)) ≡ Some k)
        → pick b (Some i) (close_in n s (i + 1) (step_of d (byte_at s i))) ≡ Some k
        → pick b (Some i) (close_in m s (i + 1) (step_of d (byte_at s i))) ≡ Some k
    go true f e = e
    go false f e = f e

-- a close that is found is among the bytes seen, and a `]`
seen_there : (n : ℕ) (s : List ℕ) (i : ℕ) (d : Depth) (k : ℕ) → 0 < d.nest → close_in n s i d ≡ Some k
    → (i ≤ k) × (k < i + n) × (byte_at s k ≡ 93)
unfolding close_in
seen_there zero s i d k h e = absurd (at_nothing (sym e))
seen_there (suc n) s i d k h e =
    go (eqb (step_of d (byte_at s i)).nest 0) refl (λ g w. seen_there n s (i + 1) (step_of d (byte_at s i)) k g w) e
  where
    go : (b : Bool) → eqb (step_of d (byte_at s i)).nest 0 ≡ b
        → (0 < (step_of d (byte_at s i)).nest → close_in n s (i + 1) (step_of d (byte_at s i)) ≡ Some k
        → (i + 1 ≤ k) × (k < i + 1 + n) × (byte_at s k ≡ 93))
        → pick b (Some i) (close_in n s (i + 1) (step_of d (byte_at s i))) ≡ Some k
        → (i ≤ k) × (k < i + suc n) × (byte_at s k ≡ 93)
    go true q f w =
        let j = at_inj w in
        (omega arith, omega arith, subst (λ (x : ℕ). byte_at s x ≡ 93) j (step_ends d (byte_at s i) h (eqb-true _ 0 q)))
    go false q f w = let nz = eqb-false (step_of d (byte_at s i)).nest 0 q in let r = f (omega (arith, nz)) w in (omega arith, omega arith, r.2)

module _ (s : List ℕ) (p k : ℕ) where
  -- and so does the unlimited scan
  pub close_found : (limit : ℕ) → close_within limit s p ≡ Some k → close_of s p ≡ Some k
  unfolding close_within close_of scan_from
  close_found limit h = close_more (min limit (length s - p) - 1) (length s - p - 1) s (p + 1) (depth 1 false) k h (omega arith)

  -- the close lies after the bracket, in the text, at a `]`
  pub close_there : close_of s p ≡ Some k → (p < k) × (k < length s) × (byte_at s k ≡ 93)
  unfolding close_of scan_from
  close_there e = let r = seen_there (length s - p - 1) s (p + 1) (depth 1 false) k (omega arith) e in (omega arith, omega arith, r.2)

  pub close_after_lem : close_of s p ≡ Some k → p < k
  close_after_lem e = (close_there e).0

  pub close_inside : close_of s p ≡ Some k → k < length s
  close_inside e = (close_there e).1

  pub close_byte : close_of s p ≡ Some k → byte_at s k ≡ 93
  close_byte e = (close_there e).2

-- a limit that reaches the text's end changes nothing
pub close_all : (s : List ℕ) (p limit : ℕ) → length s - p ≤ limit → close_within limit s p ≡ close_of s p
unfolding close_within close_of
close_all s p limit h = let e : min limit (length s - p) - 1 ≡ length s - p - 1 = omega arith in ap (λ (n : ℕ). scan_from n s p) e

-- THEOREM `ShortAgrees`
pub close_64 : ShortAgrees
close_64 s p k h = close_found s p k 64 h

-- THEOREM `ShortNone`
pub none_64 : ShortNone
none_64 s p h l = sym (close_all s p 64 l) ∙ h
