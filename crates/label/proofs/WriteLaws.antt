-- The pieces of a label in their area, in the form of the goals:
-- what fits and what does not, and an author, a space and a piece one after the other.
use Prim.Native.Nat.{ℕ, ◌+◌, ◌-◌, ◌≤◌, ◌<◌}
use native.Mathlib.Omega.{arith}
use mathlib.Core.Path.{◌≡◌, refl, sym, ◌∙◌}
use mathlib.Core.List.{List, [], ◌∷◌, ◌++◌, append_assoc}
use lib.ListN.{length, take, drop, set, length-append}
use borrow.Author.Tests.{le-leb, lt-leb}
use Rattle.base.specs.Lists.{written}
use Rattle.base.proofs.Areas.{written_after, written_byte}
use Rattle.label.specs.Areas.{fitted}

-- what does not fit, what does
module _ (out s : List ℕ) {n : ℕ} (e : n ≡ length out) where
  pub not_fitted : length s < n → s ≡ fitted out s
  not_fitted h = rw (lt-leb (length out) (length s) (omega arith)) refl

  pub is_fitted : {t : List ℕ} → n ≤ length s → t ≡ written out s → t ≡ fitted out s
  is_fitted h o = rw (le-leb (length out) (length s) (omega arith)) o

pub ruleset fitted_laws = (not_fitted, is_fitted)

-- an author and a space
pub author_put : (b s one : List ℕ) → length b < length s → one ≡ written b s → set one (length b) 32 ≡ written (b ++ (32 ∷ [])) s
author_put b s one h o = written_byte s one b (length b) 32 o refl h

-- and a piece after them
pub both_put : (a b s one : List ℕ) {p : List ℕ} → length (a ++ (32 ∷ b)) ≤ length s → one ≡ written (a ++ (32 ∷ [])) s
    → p ≡ written b (take (length one - (length a + 1)) (drop (length a + 1) one))
    → take (length a + 1) one ++ (p ++ drop (length one - (length a + 1)) (drop (length a + 1) one)) ≡ written (a ++ (32 ∷ b)) s
both_put a b s one {p} h o g =
    let l : length (a ++ (32 ∷ [])) ≡ length a + 1 = simp length-append refl in
    let m : length (a ++ (32 ∷ b)) ≡ length a + 1 + length b = simp length-append (omega arith) in
    written_after s one (a ++ (32 ∷ [])) b p (length a + 1) o (sym l) (omega arith) g ∙ rw append_assoc refl

pub ruleset put_laws = (author_put, both_put)
