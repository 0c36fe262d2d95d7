-- Searches from the end: what one finds and where it ends, cut in two, at other places,
-- and at a place of a loop.
use Prim.Native.Nat.{ℕ, zero, suc, ◌+◌, ◌-◌, ◌≤◌, ◌<◌}
use native.Mathlib.Omega.{arith}
use native.Mathlib.Numerals.{add-one}
use mathlib.Core.Path.{◌≡◌, refl, sym, ◌∙◌, ap, subst}
use mathlib.Core.Bool.{Bool, true, false, true≢false}
use lib.Dec.{ltb}
use borrow.Author.Tests.{lt-ltb, le-ltb}
use Rattle.base.specs.Pick.{pick}
use Rattle.base.specs.Last.{last_end}
use Rattle.base.specs.LastPlace.{last}

-- for a place --------------------------------------------------------------------------------------------------------------------

-- the same search by a loop that goes up: the `m` places from `i` on, `d` being the last one before them
unfoldable pub last_from : (ℕ → Bool) → ℕ → ℕ → ℕ → ℕ
last_from f zero i d = d
last_from f (suc m) i d = last_from f m (i + 1) (pick (f i) i d)

pub last_from_lem : (f : ℕ → Bool) (m i d : ℕ) → last f (i + m) d ≡ last_from f m i (last f i d)
unfolding last last_from
last_from_lem f zero i d = let e : i + 0 ≡ i = omega arith in ap (λ (k : ℕ). last f k d) e
last_from_lem f (suc m) i d =
    let e : i + suc m ≡ i + 1 + m = omega arith in
    ap (λ (k : ℕ). last f k d) e
    ∙ last_from_lem f m (i + 1) d
    ∙ ap (λ (k : ℕ). last_from f m (i + 1) (last f k d)) (add-one i)

-- two tests that agree below `n`
pub last_same : (f g : ℕ → Bool) (n d : ℕ) → ((j : ℕ) → j < n → f j ≡ g j) → last f n d ≡ last g n d
unfolding last
last_same f g zero d h = refl
last_same f g (suc n) d h = rw (h n (omega arith), last_same f g n d (λ j l. h j (omega arith)))

-- the search finds `j`, or nothing, whatever stands for nothing
pub record LastAt (f : ℕ → Bool) (n j : ℕ) : Type 0 where
  pub below : j < n
  pub holds : f j ≡ true
  pub is : (d : ℕ) → last f n d ≡ j

abbrev pub LastNone : (ℕ → Bool) → ℕ → Type 0
LastNone f n = (d : ℕ) → last f n d ≡ d

pub last_here : (f : ℕ → Bool) (n : ℕ) → f n ≡ true → LastAt f (suc n) n
unfolding last
last_here f n h = record { below = omega arith; holds = h; is = λ d. rw h }

pub last_before : (f : ℕ → Bool) (n j : ℕ) → f n ≡ false → LastAt f n j → LastAt f (suc n) j
unfolding last
last_before f n j h l = record { below = omega (arith, l.below); holds = l.holds; is = λ d. rw h (l.is d) }

pub none_before : (f : ℕ → Bool) (n : ℕ) → f n ≡ false → LastNone f n → LastNone f (suc n)
unfolding last
none_before f n h l = λ d. rw h (l d)

pub last_alike_lem : (f g : ℕ → Bool) (n j : ℕ) → ((i : ℕ) → i < n → g i ≡ f i) → LastAt f n j → LastAt g n j
last_alike_lem f g n j h l = record {
  below = l.below;
  holds = h j l.below ∙ l.holds;
  is = λ d. last_same g f n d h ∙ l.is d;
}

pub none_alike : (f g : ℕ → Bool) (n : ℕ) → ((i : ℕ) → i < n → g i ≡ f i) → LastNone f n → LastNone g n
none_alike f g n h l = λ d. last_same g f n d h ∙ l d

-- where it stops before the place that says that there is none, the test holds
pub last_holds : (f : ℕ → Bool) (n d : ℕ) → n ≤ d → last f n d < d → f (last f n d) ≡ true
unfolding last
last_holds f zero d h l = absurd (omega arith)
last_holds f (suc n) d h l = go (f n) refl l (λ k. last_holds f n d (omega arith) k)
  where
    go : (t : Bool) → f n ≡ t → pick t n (last f n d) < d → (last f n d < d → f (last f n d) ≡ true) → f (pick t n (last f n d)) ≡ true
    go true q k rec = q
    go false q k rec = rec k

-- for where the place ends ---------------------------------------------------------------------------------------------------------

pub last_end_from : (f : ℕ → Bool) (n i d : ℕ) → d ≤ i → d ≤ last_end f n i d
unfolding last_end
last_end_from f zero i d h = omega arith
last_end_from f (suc n) i d h = go (f (i + n)) (last_end_from f n i d h)
  where
    go : (t : Bool) → d ≤ last_end f n i d → d ≤ pick t (suc (i + n)) (last_end f n i d)
    go true l = omega arith
    go false l = l

pub last_end_by : (f : ℕ → Bool) (n i d : ℕ) → d ≤ i → last_end f n i d ≤ i + n
unfolding last_end
last_end_by f zero i d h = omega arith
last_end_by f (suc n) i d h = go (f (i + n)) (last_end_by f n i d h)
  where
    go : (t : Bool) → last_end f n i d ≤ i + n → pick t (suc (i + n)) (last_end f n i d) ≤ i + suc n
    go true l = omega arith
    go false l = omega arith

-- it lies behind every place where the test holds
pub last_end_behind : (f : ℕ → Bool) (n i d v : ℕ) → i ≤ v → v < i + n → f v ≡ true → v < last_end f n i d
unfolding last_end
last_end_behind f zero i d v h k t = absurd (omega arith)
last_end_behind f (suc n) i d v h k t = go (f (i + n)) refl (λ l. last_end_behind f n i d v h l t)
  where
    go : (b : Bool) → f (i + n) ≡ b → (v < i + n → v < last_end f n i d) → v < pick b (suc (i + n)) (last_end f n i d)
    go true q rec = omega arith
    go false q rec =
        let ne : v ≡ i + n → ⊥ = λ e. true≢false (sym t ∙ ap f e ∙ q) in
        rec (omega arith)

-- where it ends behind `i`, the test holds at the place before
pub last_end_holds : (f : ℕ → Bool) (n i d : ℕ) → d ≤ i → i < last_end f n i d → f (last_end f n i d - 1) ≡ true
unfolding last_end
last_end_holds f zero i d h l = absurd (omega arith)
last_end_holds f (suc n) i d h l = go (f (i + n)) refl l (last_end_holds f n i d h)
  where
    go : (t : Bool) → f (i + n) ≡ t → i < pick t (suc (i + n)) (last_end f n i d) → (i < last_end f n i d → f (last_end f n i d - 1) ≡ true)
        → f (pick t (suc (i + n)) (last_end f n i d) - 1) ≡ true
    go true q k rec = let z : suc (i + n) - 1 ≡ i + n = omega arith in rw z q
    go false q k rec = rec k

-- whatever stands for nothing found
pub last_end_or : (f : ℕ → Bool) (n i d : ℕ) → last_end f n i d ≡ pick (ltb i (last_end f n i i)) (last_end f n i i) d
unfolding last_end
last_end_or f zero i d = rw (le-ltb i i (omega arith))
last_end_or f (suc n) i d = go (f (i + n)) (last_end_or f n i d)
  where
    go : (t : Bool) → last_end f n i d ≡ pick (ltb i (last_end f n i i)) (last_end f n i i) d
        → pick t (suc (i + n)) (last_end f n i d) ≡ pick (ltb i (pick t (suc (i + n)) (last_end f n i i))) (pick t (suc (i + n)) (last_end f n i i)) d
    go true h = rw (lt-ltb i (suc (i + n)) (omega arith))
    go false h = h

pub last_end_some : (f : ℕ → Bool) (n i d : ℕ) → i < last_end f n i i → last_end f n i d ≡ last_end f n i i
last_end_some f n i d h = last_end_or f n i d ∙ rw (lt-ltb _ _ h)

pub last_end_none : (f : ℕ → Bool) (n i d : ℕ) → last_end f n i i ≤ i → last_end f n i d ≡ d
last_end_none f n i d h = last_end_or f n i d ∙ rw (le-ltb _ _ h)

-- cut in two: what the first part finds stands for nothing found in the second
pub last_end_cut : (f : ℕ → Bool) (n m i d : ℕ) → last_end f (n + m) i d ≡ last_end f m (i + n) (last_end f n i d)
unfolding last_end
last_end_cut f n zero i d = let z : n + 0 ≡ n = omega arith in rw z
last_end_cut f n (suc m) i d =
    let z : n + suc m ≡ suc (n + m) = omega arith in
    let y : i + (n + m) ≡ i + n + m = omega arith in
    rw (z, y, last_end_cut f n m i d)

-- a test that holds at `x` exactly where another does at `x + k`
pub last_end_shift : (f g : ℕ → Bool) (k n i d : ℕ) → ((x : ℕ) → x < i + n → f x ≡ g (x + k)) → last_end f n i d + k ≡ last_end g n (i + k) (d + k)
unfolding last_end
last_end_shift f g k zero i d h = refl
last_end_shift f g k (suc n) i d h = rw (y, h (i + n) (omega arith)) (go (g (i + n + k)) (last_end_shift f g k n i d (λ x l. h x (omega arith))))
  where
    y : i + k + n ≡ i + n + k
    y = omega arith

    go : (t : Bool) → last_end f n i d + k ≡ last_end g n (i + k) (d + k)
        → pick t (suc (i + n)) (last_end f n i d) + k ≡ pick t (suc (i + n + k)) (last_end g n (i + k) (d + k))
    go true r = omega arith
    go false r = r

-- at a place, in the form of the goals: `w` is what the loop's invariant speaks of, and the places from `i` on were passed
module _ (f : ℕ → Bool) (a i d : ℕ) {w : ℕ} (p : w ≡ last_end f (i - a) a d) where
  pub last_end_out : i ≤ a → d ≡ w
  unfolding last_end
  last_end_out h = let z : i - a ≡ 0 = omega arith in sym (p ∙ rw z)

  last_end_is : a < i → last_end f (i - a) a d ≡ pick (f (i - 1)) i (last_end f (i - 1 - a) a d)
  unfolding last_end
  last_end_is h =
      let n : i - a ≡ suc (i - 1 - a) = omega arith in
      let m : a + (i - 1 - a) ≡ i - 1 = omega arith in
      let l : suc (i - 1) ≡ i = omega arith in
      rw (n, m, l)

  pub last_end_stop : a < i → f (i - 1) ≡ true → i ≡ w
  last_end_stop h t = sym (p ∙ last_end_is h ∙ rw t)

  pub last_end_more : a < i → f (i - 1) ≡ false → w ≡ last_end f (i - 1 - a) a d
  last_end_more h t = p ∙ last_end_is h ∙ rw t

-- a search below `i`: the place before `i` is the last one, it is not, and there is none
module _ (p : ℕ → Bool) (i : ℕ) where
  pub last_now : 0 < i → p (i - 1) ≡ true → (d : ℕ) → last p i d ≡ i - 1
  unfolding last
  last_now l h d = let k : i ≡ suc (i - 1) = omega arith in subst (λ (z : ℕ). last p z d ≡ i - 1) (sym k) (rw h refl)

  pub last_next : 0 < i → p (i - 1) ≡ false → (d : ℕ) → last p i d ≡ last p (i - 1) d
  unfolding last
  last_next l h d = let k : i ≡ suc (i - 1) = omega arith in subst (λ (z : ℕ). last p z d ≡ last p (i - 1) d) (sym k) (rw h refl)

  pub last_none : i ≤ 0 → (d : ℕ) → last p i d ≡ d
  unfolding last
  last_none l d = let k : i ≡ zero = omega arith in subst (λ (z : ℕ). last p z d ≡ d) (sym k) refl
