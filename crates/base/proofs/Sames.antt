-- The test whether two lists are the same: what it says,
-- and that the library's is the same test.
use Prim.Native.Nat.{ℕ}
use mathlib.Core.Path.{◌≡◌, refl, sym, ◌∙◌, ap, subst}
use mathlib.Core.List.{List, [], ◌∷◌}
use mathlib.Core.Bool.{true, false, ◌&&◌, true≢false}
use lib.Dec.{eqb}
use lib.Pointwise.{pointwise}
use borrow.Author.Tests.{eq-eqb, eqb-true}
use Rattle.base.specs.Lists.{same}
use Rattle.base.proofs.Bools.{and_left, and_right}

pub same_refl : (a : List ℕ) → same a a ≡ true
unfolding same
same_refl [] = refl
same_refl (x ∷ xs) = rw (eq-eqb x x refl) (same_refl xs)

pub same_true : (a b : List ℕ) → same a b ≡ true → a ≡ b
unfolding same
same_true [] [] t = refl
same_true [] (y ∷ ys) t = absurd (true≢false (sym t))
same_true (x ∷ xs) [] t = absurd (true≢false (sym t))
same_true (x ∷ xs) (y ∷ ys) t =
    let p = eqb-true x y (and_left (eqb x y) (same xs ys) t) in
    let q = same_true xs ys (and_right (eqb x y) (same xs ys) t) in
    cc

pub same_false : (a b : List ℕ) → same a b ≡ false → a ≡ b → ⊥
same_false a b h e = true≢false (sym (same_refl a) ∙ subst (λ (z : List ℕ). same a z ≡ false) (sym e) h)

-- the library's comparison of two slices
pub same_pointwise : (a b : List ℕ) → pointwise eqb a b ≡ same a b
unfolding same
same_pointwise [] [] = refl
same_pointwise [] (y ∷ ys) = refl
same_pointwise (x ∷ xs) [] = refl
same_pointwise (x ∷ xs) (y ∷ ys) = ap (λ t. eqb x y && t) (same_pointwise xs ys)
