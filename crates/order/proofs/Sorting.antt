-- The order of bytes, and numbers in order:
-- what is less, and what follows for places of a list in order.
use Prim.Native.Nat.{ℕ, zero, suc, ◌≤◌, ◌<◌}
use native.Mathlib.Omega.{arith}
use mathlib.Core.Path.{◌≡◌, refl, sym, ◌∙◌}
use mathlib.Core.List.{List, [], ◌∷◌}
use mathlib.Core.Bool.{Bool, true, false, true≢false}
use mathlib.Core.Logic.{◌⊎◌, inl, inr}
use lib.ListN.{length, get_or, take}
use lib.Seq.{get_or-take, length-take-le}
use lib.Dec.{eqb, ltb}
use borrow.Author.Tests.{lt-ltb, le-ltb, eq-eqb, ne_eqb, ltb-true, ltb-false, eqb-true, eqb-false}
use Rattle.base.specs.Sorted.{Each}
use Rattle.order.specs.Order.{less}
use Rattle.order.specs.Ordered.{greater_at, Rising, SortedBy}

-- the order of bytes -------------------------------------------------------------------------------------------------------------

module _ (x y : ℕ) (xs ys : List ℕ) where
  less_lt : x < y → less (x ∷ xs) (y ∷ ys) ≡ true
  unfolding less
  less_lt h = rw (lt-ltb x y h) refl

  less_eq : x ≡ y → less (x ∷ xs) (y ∷ ys) ≡ less xs ys
  unfolding less
  less_eq e = let h : y ≤ x = omega arith in rw (le-ltb x y h, eq-eqb x y e) refl

  less_gt : y < x → less (x ∷ xs) (y ∷ ys) ≡ false
  unfolding less
  less_gt h =
      let l : y ≤ x = omega arith in
      let n : (x ≡ y → ⊥) = λ e. omega arith in
      rw (le-ltb x y l, ne_eqb x y n) refl

  -- which of the three it is
  three : (x < y) ⊎ ((x ≡ y) ⊎ (y < x))
  three = go (ltb x y) refl (eqb x y) refl
    where
      go : (t : Bool) → ltb x y ≡ t → (u : Bool) → eqb x y ≡ u → (x < y) ⊎ ((x ≡ y) ⊎ (y < x))
      go true p u q = inl (ltb-true x y p)
      go false p true q = inr (inl (eqb-true x y q))
      go false p false q = let l = ltb-false x y p in let n = eqb-false x y q in inr (inr (omega arith))

pub less_asym : (a b : List ℕ) → less a b ≡ true → less b a ≡ false
unfolding less
less_asym [] [] h = refl
less_asym [] (y ∷ ys) h = refl
less_asym (x ∷ xs) [] h = absurd (true≢false (sym h))
less_asym (x ∷ xs) (y ∷ ys) h = go (three x y xs ys) (less_asym xs ys)
  where
    go : (x < y) ⊎ ((x ≡ y) ⊎ (y < x)) → (less xs ys ≡ true → less ys xs ≡ false) → less (y ∷ ys) (x ∷ xs) ≡ false
    go (inl l) rec = less_gt y x ys xs l
    go (inr (inl e)) rec = less_eq y x ys xs (sym e) ∙ rec (sym (less_eq x y xs ys e) ∙ h)
    go (inr (inr l)) rec = absurd (true≢false (sym h ∙ less_gt x y xs ys l))

pub less_self : (a : List ℕ) → less a a ≡ false
less_self a = go (less a a) refl
  where
    go : (t : Bool) → less a a ≡ t → t ≡ false
    go true e = sym e ∙ less_asym a a e
    go false e = refl

-- what is below one is below all that are not below that one
pub less_cut : (a b c : List ℕ) → less a b ≡ true → less c b ≡ false → less a c ≡ true
unfolding less
less_cut [] [] c h k = absurd (true≢false (sym h))
less_cut [] (y ∷ ys) [] h k = absurd (true≢false k)
less_cut [] (y ∷ ys) (z ∷ zs) h k = refl
less_cut (x ∷ xs) [] c h k = absurd (true≢false (sym h))
less_cut (x ∷ xs) (y ∷ ys) [] h k = absurd (true≢false k)
less_cut (x ∷ xs) (y ∷ ys) (z ∷ zs) h k = go (three x y xs ys) (three z y zs ys) (less_cut xs ys zs)
  where
    go : (x < y) ⊎ ((x ≡ y) ⊎ (y < x)) → (z < y) ⊎ ((z ≡ y) ⊎ (y < z)) → (less xs ys ≡ true → less zs ys ≡ false → less xs zs ≡ true)
        → less (x ∷ xs) (z ∷ zs) ≡ true
    go (inr (inr l)) m rec = absurd (true≢false (sym h ∙ less_gt x y xs ys l))
    go (inl l) (inl m) rec = absurd (true≢false (sym (less_lt z y zs ys m) ∙ k))
    go (inl l) (inr (inl e)) rec = less_lt x z xs zs (omega arith)
    go (inl l) (inr (inr m)) rec = less_lt x z xs zs (omega arith)
    go (inr (inl d)) (inl m) rec = absurd (true≢false (sym (less_lt z y zs ys m) ∙ k))
    go (inr (inl d)) (inr (inl e)) rec =
        less_eq x z xs zs (omega arith) ∙ rec (sym (less_eq x y xs ys d) ∙ h) (sym (less_eq z y zs ys e) ∙ k)
    go (inr (inl d)) (inr (inr m)) rec = less_lt x z xs zs (omega arith)

-- what is not less is greater or the same
pub less_or : (a b : List ℕ) → less b a ≡ false → (less a b ≡ true) ⊎ (a ≡ b)
unfolding less
less_or [] [] h = inr refl
less_or [] (y ∷ ys) h = inl refl
less_or (x ∷ xs) [] h = absurd (true≢false h)
less_or (x ∷ xs) (y ∷ ys) h = go (three x y xs ys) (less_or xs ys)
  where
    go : (x < y) ⊎ ((x ≡ y) ⊎ (y < x)) → (less ys xs ≡ false → (less xs ys ≡ true) ⊎ (xs ≡ ys))
        → (less (x ∷ xs) (y ∷ ys) ≡ true) ⊎ (x ∷ xs ≡ y ∷ ys)
    go (inl l) rec = inl (less_lt x y xs ys l)
    go (inr (inl e)) rec = on (rec (sym (less_eq y x ys xs (sym e)) ∙ h))
      where
        on : (less xs ys ≡ true) ⊎ (xs ≡ ys) → (less (x ∷ xs) (y ∷ ys) ≡ true) ⊎ (x ∷ xs ≡ y ∷ ys)
        on (inl a) = inl (less_eq x y xs ys e ∙ a)
        on (inr a) = inr (cc e)
    go (inr (inr l)) rec = absurd (true≢false (sym (less_lt y x ys xs l) ∙ h))

-- numbers in order ---------------------------------------------------------------------------------------------------------------

each_at : (P : ℕ → Type 0) (l : List ℕ) (j : ℕ) → Each P l → j < length l → P (get_or l j 0)
each_at P [] j e h = absurd (omega arith)
each_at P (x ∷ xs) zero e h = e.0
each_at P (x ∷ xs) (suc j) e h = each_at P xs j e.1 (omega arith)

module _ (rank : ℕ → List ℕ) where
  abbrev Before : ℕ → ℕ → Type 0
  Before a b = less (rank b) (rank a) ≡ false

  sorted_at : (l : List ℕ) (i j : ℕ) → SortedBy rank l → i < j → j < length l → Before (get_or l i 0) (get_or l j 0)
  sorted_at [] i j s h m = absurd (omega arith)
  sorted_at (x ∷ xs) i zero s h m = absurd (omega arith)
  sorted_at (x ∷ xs) zero (suc j) s h m = each_at (Before x) xs j s.0 (omega arith)
  sorted_at (x ∷ xs) (suc i) (suc j) s h m = sorted_at xs i j s.1 (omega arith) (omega arith)

  -- the places with a greater rank are the last ones
  pub sorted_rises : (bytes l : List ℕ) (c : ℕ) → c ≤ length l → SortedBy rank (take c l) → Rising (greater_at rank bytes l) c
  unfolding greater_at
  sorted_rises bytes l c m s i j a b t = go (ltb i j) refl
    where
      n : length (take c l) ≡ c
      n = length-take-le c l m

      go : (u : Bool) → ltb i j ≡ u → less bytes (rank (get_or l j 0)) ≡ true
      go true e =
          let h = ltb-true i j e in
          let x : get_or (take c l) i 0 ≡ get_or l i 0 = get_or-take c l i 0 (omega arith) in
          let y : get_or (take c l) j 0 ≡ get_or l j 0 = get_or-take c l j 0 (omega arith) in
          less_cut bytes (rank (get_or l i 0)) (rank (get_or l j 0)) t
          (rw (x, y) at (sorted_at (take c l) i j s h (omega (arith, n))))
      go false e = let h = ltb-false i j e in let z : i ≡ j = omega arith in rw z at t
