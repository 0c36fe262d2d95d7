-- The keys of a group,
-- in the form of the goals.
use Prim.Native.Nat.{ℕ, zero, suc, ◌+◌, ◌<◌}
use native.Mathlib.Omega.{arith}
use mathlib.Core.Path.{◌≡◌, refl, sym, ◌∙◌, ap}
use mathlib.Core.List.{List}
use mathlib.Core.Bool.{Bool, true, false, and-false}
use lib.ListN.{length}
use Rattle.std.specs.Bool.{MatchBool}
use Rattle.std.specs.List.{range_with_len, AllWithin, HoldsAt}
use Rattle.std.proofs.lemmas.List.FromFn.{get_or-range_with_len, length-range_with_len}
use Rattle.std.specs.Prelude.{Option, Some, None, is_some}
use Rattle.definition.specs.Defs.{is_defined}
use Rattle.definition.specs.declared.defined.Definition.{Definition}
use Rattle.definition.specs.declared.defined.Definition.TheVariants.{Line, Entry}
use Rattle.definition.specs.Definitions.{definition_in}
use Rattle.records.specs.Records.{key_in}
use Rattle.definition.specs.Defined.{defined_as}
use Rattle.numbering.specs.Numbers.{key_defined, keys_defined}

-- a key is defined where something was found
some_defined : (text pool groups : List ℕ) (n : ℕ) (d : Option Definition) → is_defined (defined_as text groups n pool d) ≡ is_some d
unfolding defined_as
some_defined text pool groups n (Some (Line g)) = refl
some_defined text pool groups n (Some (Entry i)) = refl
some_defined text pool groups n None = refl

pub defined_is : (text pool groups items : List ℕ) (n k : ℕ) (d : Option Definition) {key : List ℕ} {r : Bool} → key ≡ key_in text items k
    → defined_as text groups n pool d ≡ definition_in text groups items n pool key → r ≡ is_some d → r ≡ key_defined text pool groups items n k
unfolding key_defined
defined_is text pool groups items n k d p q e = e ∙ sym (some_defined text pool groups n d) ∙ ap is_defined q ∙ rw p refl

pub ruleset defined_laws = (defined_is)

-- the keys of `m` records from `k` on
module _ (text pool groups items : List ℕ) (n : ℕ) where
  keys_all : (m k : ℕ) → ((i : ℕ) → i < m → key_defined text pool groups items n (k + i) ≡ true) → true ≡ keys_defined text pool groups items n m k
  unfolding keys_defined
  keys_all zero k h = refl
  keys_all (suc m) k h =
      let z : k + 0 ≡ k = omega arith in
      let t : key_defined text pool groups items n k ≡ true = rw z at (h 0 (omega arith)) in
      rw t (keys_all m (k + 1) (λ i l. let e : k + suc i ≡ k + 1 + i = omega arith in rw e at (h (suc i) (omega arith))))

  keys_some : (m k i : ℕ) → i < m → key_defined text pool groups items n (k + i) ≡ false → false ≡ keys_defined text pool groups items n m k
  unfolding keys_defined
  keys_some zero k i l h = absurd (omega arith)
  keys_some (suc m) k zero l h = let z : k + 0 ≡ k = omega arith in rw (rw z at h) refl
  keys_some (suc m) k (suc i) l h =
      let e : k + suc i ≡ k + 1 + i = omega arith in
      rw (← keys_some m (k + 1) i (omega arith) (rw e at h), and-false) refl

  pub keys_by : (k m : ℕ) (r : Bool) → MatchBool r
      (AllWithin (λ j. key_defined text pool groups items n j ≡ true) (range_with_len k m) 0 (length (range_with_len k m)))
      ((i : ℕ) × (i < length (range_with_len k m)) × HoldsAt (λ j. key_defined text pool groups items n j ≡ false) (range_with_len k m) i)
      → r ≡ keys_defined text pool groups items n m k
  keys_by k m true h = keys_all m k (λ i l. rw get_or-range_with_len at (h i 0 (omega arith) (rw length-range_with_len l)))
  keys_by k m false h =
      let l : h.0 < m = rw length-range_with_len at h.1 in
      keys_some m k h.0 l (rw get_or-range_with_len at (h.2 0))
