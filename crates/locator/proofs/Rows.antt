-- The table of the code as matchers, row by row: where a matcher stands,
-- and where none is left.
use Prim.Native.Nat.{ℕ, zero, suc, ◌+◌, ◌≤◌, ◌<◌}
use native.Mathlib.Numerals.{add-one}
use native.Mathlib.Omega.{arith}
use mathlib.Core.Path.{◌≡◌, refl, sym, ◌∙◌}
use mathlib.Core.List.{List, [], ◌∷◌}
use mathlib.Core.Bool.{Bool, true, false, ◌&&◌}
use lib.ListN.{length, get_or, drop, drop_of_length-le}
use lib.Seq.{drop-cons}
use Rattle.std.proofs.lemmas.Bool.Decides.{nat_tests}
use Rattle.std.specs.Prelude.{Some, None}
use Rattle.std.specs.Borrow.{Bor}
use Rattle.locator.specs.declared.Term.{Term}
use Rattle.locator.specs.Matchers.{row}
use Rattle.locator.specs.Table.{matchers_in, all_spelt}
use Rattle.locator.specs.Locators.{fits, may_follow, label, stands, match_in}

module _ (t : List (Bor (List ℕ) × Term)) (k : ℕ) (d : Bor (List ℕ) × Term) (s : List ℕ) (i e : ℕ) (h : k < length t) where
  abbrev word : List ℕ
  word = (get_or t k d).0.now

  at_row : match_in (matchers_in (drop k t)) s i e
      ≡ match_in (row word (get_or t k d).1 ∷ matchers_in (drop (k + 1) t)) s i e
  unfolding matchers_in
  at_row = rw (add-one k, drop-cons t k d h) refl

  module _ {x : Bool} (p : x ≡ (fits word s i e && may_follow s (i + length word) e)) where
    pub match_here : x ≡ true → Some (label (get_or t k d).1 (i + length word)) ≡ match_in (matchers_in (drop k t)) s i e
    unfolding match_in stands
    match_here f = sym (at_row ∙ rw (← p, f) refl)

    pub match_next : x ≡ false → match_in (matchers_in (drop k t)) s i e ≡ match_in (matchers_in (drop (k + 1) t)) s i e
    unfolding match_in stands
    match_next f = at_row ∙ rw (← p, f) refl

pub match_none : (t : List (Bor (List ℕ) × Term)) (k : ℕ) (s : List ℕ) (i e : ℕ) → length t ≤ k → None ≡ match_in (matchers_in (drop k t)) s i e
unfolding match_in matchers_in
match_none t k s i e h = rw (drop_of_length-le t {i = k} h) refl

-- where no word is empty, none of its rows has an empty one
pub spelt_at : (t : List (Bor (List ℕ) × Term)) (k : ℕ) (d : Bor (List ℕ) × Term) → all_spelt (matchers_in t) ≡ true → k < length t
    → 0 < length (get_or t k d).0.now
unfolding all_spelt matchers_in
spelt_at [] k d q h = absurd (omega arith)
spelt_at (r ∷ rs) zero d q h = grind (arith, nat_tests, q)
spelt_at (r ∷ rs) (suc k) d q h = grind (arith, nat_tests, q, spelt_at rs k d)
