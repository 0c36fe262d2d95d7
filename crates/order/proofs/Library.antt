-- The library's order of two slices
-- as the paper's words.
use Rattle.std.proofs.Common.{◌≡◌, ℕ, List, [], ◌∷◌, Bool, true, false, not, eqb, ltb, cond, Some, Less, Equal, Greater, refl, sym, arith}
use borrow.Author.Tests.{lt-ltb, le-ltb, eq-eqb, ne_eqb, ltb-true, ltb-false, eqb-true, eqb-false}
use Rattle.std.specs.Cmp.Lexicographic.{slice_partial_cmp}
use Rattle.std.specs.Ordering.{is_some_and, is_le, nat_cmp, partial_ordering_then}
use Rattle.base.specs.Pick.{pick}
use Rattle.order.specs.Order.{less}

-- one slice is not greater than another
pub less_le : (a b : List ℕ) → is_some_and is_le (slice_partial_cmp (λ x y. Some (nat_cmp x y)) a b) ≡ not (less b a)
unfolding less
less_le [] [] = refl
less_le [] (y ∷ ys) = refl
less_le (x ∷ xs) [] = refl
less_le (x ∷ xs) (y ∷ ys) = go (ltb x y) refl (eqb x y) refl (less_le xs ys)
  where
    go : (s : Bool) → ltb x y ≡ s → (t : Bool) → eqb x y ≡ t
        → is_some_and is_le (slice_partial_cmp (λ u v. Some (nat_cmp u v)) xs ys) ≡ not (less ys xs)
        → is_some_and is_le (partial_ordering_then (Some (cond s Less (cond t Equal Greater))) (slice_partial_cmp (λ u v. Some (nat_cmp u v)) xs ys))
        ≡ not (pick (ltb y x) true (pick (eqb y x) (less ys xs) false))
    go true p t q h =
        let l = ltb-true x y p in
        rw (le-ltb y x (omega arith), ne_eqb y x (omega arith)) refl
    go false p true q h =
        let e = eqb-true x y q in
        rw (le-ltb y x (omega arith), eq-eqb y x (sym e)) h
    go false p false q h =
        let l = ltb-false x y p in
        let n = eqb-false x y q in
        rw (lt-ltb y x (omega arith)) refl
