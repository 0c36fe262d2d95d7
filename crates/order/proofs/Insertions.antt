-- Numbers inserted by their ranks, and reference order:
-- every number once, in order, and the same by ranks that agree.
use Prim.Native.Nat.{ℕ, zero, suc, ◌+◌, ◌≤◌, ◌<◌}
use native.Mathlib.Omega.{arith}
use native.Mathlib.Numerals.{add-one}
use mathlib.Core.Path.{◌≡◌, refl, sym, ◌∙◌, ap, subst}
use mathlib.Core.List.{List, [], ◌∷◌, ◌++◌, map, map-id, Perm, Permᴰ}
use mathlib.Core.Logic.{◌⊎◌, inl, inr}
use mathlib.Core.Bool.{Bool, true, false}
use lib.ListN.{length}
use lib.Dec.{eqb}
use Rattle.base.specs.Pick.{pick}
use Rattle.base.specs.Lists.{up_from}
use Rattle.base.specs.Sorted.{Each, Sorted}
use Rattle.base.proofs.Alls.{each_map}
use Rattle.base.proofs.Ups.{up_length}
use Rattle.order.specs.Order.{less, insert_by, inserted_from, reference_order}
use Rattle.order.specs.Precedes.{Precedes}
use Rattle.order.proofs.Sorting.{less_asym, less_cut, less_or}

-- one number -----------------------------------------------------------------------------------------------------------------------

module _ (rank : ℕ → List ℕ) where
  pub insert_length : (l : List ℕ) (k : ℕ) → length (insert_by rank l k) ≡ suc (length l)
  unfolding insert_by
  insert_length [] k = refl
  insert_length (q ∷ qs) k = go (less (rank k) (rank q)) (insert_length qs k)
    where
      go : (t : Bool) → length (insert_by rank qs k) ≡ suc (length qs) → length (pick t (k ∷ q ∷ qs) (q ∷ insert_by rank qs k)) ≡ suc (suc (length qs))
      go true e = refl
      go false e = ap suc e

  insert_each : (P : ℕ → Type 0) (l : List ℕ) (k : ℕ) → Each P l → P k → Each P (insert_by rank l k)
  unfolding insert_by
  insert_each P [] k e p = (p, tt)
  insert_each P (q ∷ qs) k e p = go (less (rank k) (rank q)) (insert_each P qs k e.1 p)
    where
      go : (t : Bool) → Each P (insert_by rank qs k) → Each P (pick t (k ∷ q ∷ qs) (q ∷ insert_by rank qs k))
      go true r = (p, e)
      go false r = (e.0, r)

  insert_perm : (l : List ℕ) (k : ℕ) → Permᴰ (insert_by rank l k) (k ∷ l)
  unfolding insert_by
  insert_perm [] k = mathlib.Core.List.Permᴰ.refl (k ∷ [])
  insert_perm (q ∷ qs) k = go (less (rank k) (rank q)) (insert_perm qs k)
    where
      go : (t : Bool) → Permᴰ (insert_by rank qs k) (k ∷ qs) → Permᴰ (pick t (k ∷ q ∷ qs) (q ∷ insert_by rank qs k)) (k ∷ q ∷ qs)
      go true i = mathlib.Core.List.Permᴰ.refl (k ∷ q ∷ qs)
      go false i = mathlib.Core.List.Permᴰ.trans (mathlib.Core.List.Permᴰ.cons refl i) (mathlib.Core.List.Permᴰ.swap refl refl)

  -- the highest number so far comes after those of the same rank
  insert_precedes : (l : List ℕ) (k : ℕ) → Each (λ q. q < k) l → Sorted (Precedes rank) l → Sorted (Precedes rank) (insert_by rank l k)
  unfolding insert_by
  insert_precedes [] k h s = (tt, tt)
  insert_precedes (q ∷ qs) k h s = go (less (rank k) (rank q)) refl (insert_precedes qs k h.1 s.1)
    where
      before : less (rank k) (rank q) ≡ true → (x : ℕ) → Precedes rank q x → Precedes rank k x
      before e x (inl g) = inl (less_cut (rank k) (rank q) (rank x) e (less_asym (rank q) (rank x) g))
      before e x (inr g) = inl (subst (λ (y : List ℕ). less (rank k) y ≡ true) g.0 e)

      after : (less (rank q) (rank k) ≡ true) ⊎ (rank q ≡ rank k) → Precedes rank q k
      after (inl a) = inl a
      after (inr a) = inr (a, h.0)

      go : (t : Bool) → less (rank k) (rank q) ≡ t → Sorted (Precedes rank) (insert_by rank qs k)
          → Sorted (Precedes rank) (pick t (k ∷ q ∷ qs) (q ∷ insert_by rank qs k))
      go true e r = ((inl e, each_map (Precedes rank q) (Precedes rank k) qs (before e) s.0), s)
      go false e r = (insert_each (Precedes rank q) qs k s.0 (after (less_or (rank q) (rank k) e)), r)

-- numbers of the same ranks are inserted at the same place
pub insert_alike : (D : ℕ → ℕ) (B R : ℕ → List ℕ) (l : List ℕ) (k : ℕ) → Each (λ q. B (D q) ≡ R q) l → B (D k) ≡ R k
    → insert_by B (map D l) (D k) ≡ map D (insert_by R l k)
unfolding insert_by
insert_alike D B R [] k a e = refl
insert_alike D B R (q ∷ qs) k a e = rw (e, a.0) (go (less (R k) (R q)) (insert_alike D B R qs k a.1 e))
  where
    go : (t : Bool) → insert_by B (map D qs) (D k) ≡ map D (insert_by R qs k)
        → pick t (D k ∷ D q ∷ map D qs) (D q ∷ insert_by B (map D qs) (D k)) ≡ map D (pick t (k ∷ q ∷ qs) (q ∷ insert_by R qs k))
    go true r = refl
    go false r = ap (λ (l : List ℕ). D q ∷ l) r

insert_same : (B R : ℕ → List ℕ) (l : List ℕ) (k : ℕ) → Each (λ q. B q ≡ R q) l → B k ≡ R k → insert_by B l k ≡ insert_by R l k
insert_same B R l k a e =
    ap (λ (m : List ℕ). insert_by B m k) (sym (map-id l)) ∙ insert_alike (λ x. x) B R l k a e ∙ map-id (insert_by R l k)

-- the numbers from one on ----------------------------------------------------------------------------------------------------------

module _ (rank : ℕ → List ℕ) where
  pub inserted_next : (i : ℕ) (l : List ℕ) (k : ℕ) → insert_by rank (inserted_from rank i l k) (k + i) ≡ inserted_from rank (i + 1) l k
  unfolding inserted_from
  inserted_next zero l k = let z : k + 0 ≡ k = omega arith in rw z refl
  inserted_next (suc i) l k =
      let z : k + suc i ≡ k + 1 + i = omega arith in
      let y : suc i + 1 ≡ suc (i + 1) = omega arith in
      rw (z, y) (inserted_next i (insert_by rank l k) (k + 1))

  pub inserted_length : (i : ℕ) (l : List ℕ) (k : ℕ) → length (inserted_from rank i l k) ≡ length l + i
  unfolding inserted_from
  inserted_length zero l k = omega arith
  inserted_length (suc i) l k = omega (arith, inserted_length i (insert_by rank l k) (k + 1), insert_length rank l k)

  -- those that are inserted are the numbers from `k` on
  pub inserted_each : (P : ℕ → Type 0) (i : ℕ) (l : List ℕ) (k : ℕ) → Each P l → ((j : ℕ) → k ≤ j → j < k + i → P j)
      → Each P (inserted_from rank i l k)
  unfolding inserted_from
  inserted_each P zero l k a h = a
  inserted_each P (suc i) l k a h =
      inserted_each P i (insert_by rank l k) (k + 1) (insert_each rank P l k a (h k (omega arith) (omega arith)))
      (λ j b c. h j (omega arith) (omega arith))

  inserted_perm : (i : ℕ) (l : List ℕ) (k : ℕ) → Permᴰ (inserted_from rank i l k) (up_from k i ++ l)
  unfolding inserted_from up_from
  inserted_perm zero l k = mathlib.Core.List.Permᴰ.refl l
  inserted_perm (suc i) l k =
      let first : Permᴰ (up_from (k + 1) i ++ (k ∷ l)) (k ∷ (up_from (suc k) i ++ l)) = rw (add-one k) (mathlib.Core.List.Permᴰ.middle k (up_from (suc k) i) l) in
      mathlib.Core.List.Permᴰ.trans (inserted_perm i (insert_by rank l k) (k + 1))
      (mathlib.Core.List.Permᴰ.trans (mathlib.Core.List.Permᴰ.append_left (up_from (k + 1) i) (insert_perm rank l k)) first)

  pub inserted_precedes : (i : ℕ) (l : List ℕ) (k : ℕ) → Each (λ q. q < k) l → Sorted (Precedes rank) l
      → Sorted (Precedes rank) (inserted_from rank i l k)
  unfolding inserted_from
  inserted_precedes zero l k h s = s
  inserted_precedes (suc i) l k h s =
      inserted_precedes i (insert_by rank l k) (k + 1)
      (insert_each rank (λ q. q < k + 1) l k (each_map (λ q. q < k) (λ q. q < k + 1) l (λ q m. omega (arith, m)) h) (omega arith))
      (insert_precedes rank l k h s)

inserted_same : (B R : ℕ → List ℕ) (i : ℕ) (l : List ℕ) (k : ℕ) → Each (λ q. B q ≡ R q) l → ((j : ℕ) → k ≤ j → j < k + i → B j ≡ R j)
    → inserted_from B i l k ≡ inserted_from R i l k
unfolding inserted_from
inserted_same B R zero l k a h = refl
inserted_same B R (suc i) l k a h =
    let e = h k (omega arith) (omega arith) in
    ap (λ (m : List ℕ). inserted_from B i m (k + 1)) (insert_same B R l k a e)
    ∙ inserted_same B R i (insert_by R l k) (k + 1) (insert_each R (λ q. B q ≡ R q) l k a e) (λ j b c. h j (omega arith) (omega arith))

-- reference order ------------------------------------------------------------------------------------------------------------------

module _ (mode : ℕ) (rank : ℕ → List ℕ) (count : ℕ) where
  pub order_length : length (reference_order mode rank count) ≡ count
  unfolding reference_order
  order_length = go (eqb mode 0)
    where
      go : (t : Bool) → length (pick t (up_from 1 count) (inserted_from rank count [] 1)) ≡ count
      go true = up_length 1 count
      go false = omega (arith, inserted_length rank count [] 1)

  pub order_all : Perm (reference_order mode rank count) (up_from 1 count)
  unfolding reference_order
  order_all = go (eqb mode 0)
    where
      go : (t : Bool) → Perm (pick t (up_from 1 count) (inserted_from rank count [] 1)) (up_from 1 count)
      go true = ∣ mathlib.Core.List.Permᴰ.refl (up_from 1 count) ∣₁
      go false = ∣ mathlib.Core.List.Permᴰ.trans (inserted_perm rank count [] 1) (mathlib.Core.List.Permᴰ.append-nil (up_from 1 count)) ∣₁

above : (m i n : ℕ) → m < i → Each (λ (k : ℕ). m < k) (up_from i n)
unfolding up_from
above m i zero h = tt
above m i (suc n) h = (h, above m (suc i) n (omega arith))

up_sorted : (i n : ℕ) → Sorted (λ (m k : ℕ). m < k) (up_from i n)
unfolding up_from
up_sorted i zero = tt
up_sorted i (suc n) = (above i (suc i) n (omega arith), up_sorted (suc i) n)

pub order_by_number : (rank : ℕ → List ℕ) (count : ℕ) → Sorted (λ (m n : ℕ). m < n) (reference_order 0 rank count)
unfolding reference_order
order_by_number rank count = up_sorted 1 count

pub order_by_rank : (rank : ℕ → List ℕ) (count : ℕ) → Sorted (Precedes rank) (reference_order 1 rank count)
unfolding reference_order
order_by_rank rank count = inserted_precedes rank count [] 1 tt tt

pub order_same : (mode : ℕ) (B R : ℕ → List ℕ) (count : ℕ) → ((k : ℕ) → 1 ≤ k → k ≤ count → B k ≡ R k)
    → reference_order mode B count ≡ reference_order mode R count
unfolding reference_order
order_same mode B R count h =
    ap (pick (eqb mode 0) (up_from 1 count)) (inserted_same B R count [] 1 tt (λ k a b. h k a (omega arith)))
