-- The groups of the sweep are all that the rules admit,
-- save those that begin inside one of them.
use Prim.Native.Nat.{ℕ, zero, suc, ◌+◌, ◌≤◌, ◌<◌}
use native.Mathlib.Omega.{arith}
use native.Mathlib.Decide.{dec_le}
use mathlib.Core.Path.{◌≡◌, refl, sym, subst}
use mathlib.Core.List.{List, [], ◌∷◌, ◌++◌}
use mathlib.Core.Logic.{◌⊎◌, inl, inr}
use mathlib.Core.Bool.{Bool, true, false}
use lib.ListN.{length}
use lib.Dec.{ltb}
use borrow.Author.Tests.{lt-ltb}
use Rattle.base.specs.Pick.{pick}
use Rattle.base.specs.Sorted.{Each, Sorted}
use Rattle.base.proofs.Alls.{each_map}
use Rattle.index.specs.Entries.{opens_at}
use Rattle.resolve.specs.Groups.{GroupAnswer, Found, NoGroup, group_at}
use Rattle.item.specs.Group.{Group}
use Rattle.resolve.proofs.AtBracket.{opens_in}
use Rattle.resolve.proofs.Parts.{group_in_order}
use Rattle.definition_line.specs.Lines.{group_end}
use Rattle.sweep.specs.Sweep.{found_groups, next_at, found_at, sweep_in, sweep_of}
use Rattle.annotation.specs.Standings.{Some}
use Rattle.histories.specs.EveryGroup.{Admits, AllOf}

module _ (text : List ℕ) where
  -- what the sweep finds at a place is what the rules admit there
  found_admits : (p : ℕ) (g : Group) → found_at text p ≡ Found g → Admits text p g
  unfolding found_at
  found_admits p g = go (opens_at text p) refl
    where
      go : (b : Bool) → opens_at text p ≡ b → pick b (group_at text p) NoGroup ≡ Found g → Admits text p g
      go true e h = (e, h)
      go false e h = absurd (let z : ◌≡◌ {A = ℕ} 0 1 = cc in omega (arith, z))

  admits_found : (p : ℕ) (g : Group) → Admits text p g → found_at text p ≡ Found g
  unfolding found_at
  admits_found p g h = rw h.0 h.1

  -- from `at` on, the rules admit each group
  abbrev Fine : ℕ → Group → Type 0
  Fine at g = (at ≤ g.at) × Admits text g.at g

  later : (at next : ℕ) (l : List Group) → at ≤ next → Each (Fine next) l → Each (Fine at) l
  later at next l h = each_map (Fine next) (Fine at) l (λ g k. (omega (arith, k.0), k.1))

  -- what is found at a place is so, and ends where the sweep goes on
  here : (at : ℕ) (g : Group) → found_at text at ≡ Found g → Fine at g × (at < group_end g)
  here at g e =
      let a = found_admits at g e in
      let k = group_in_order text at g a.1 in
      ((omega (arith, k.0), subst (λ (p : ℕ). Admits text p g) (sym k.0) a), omega (arith, k.1))

  each_fine : (n at : ℕ) → Each (Fine at) (sweep_in n text at)
  unfolding sweep_in
  each_fine zero at = tt
  each_fine (suc n) at = go (ltb at (length text)) (found_at text at) refl (λ k. each_fine n k)
    where
      go : (b : Bool) (f : GroupAnswer) → found_at text at ≡ f → ((k : ℕ) → Each (Fine k) (sweep_in n text k))
          → Each (Fine at) (pick b (found_groups f ++ sweep_in n text (next_at at f)) [])
      go true (Found g) e rest =
          let k = here at g e in
          (k.0, later at (group_end g) (sweep_in n text (group_end g)) (omega (arith, k.1)) (rest (group_end g)))
      go true NoGroup e rest = later at (at + 1) (sweep_in n text (at + 1)) (omega arith) (rest (at + 1))
      go false f e rest = tt

  in_order : (n at : ℕ) → Sorted (λ (g h : Group). group_end g ≤ h.at) (sweep_in n text at)
  unfolding sweep_in
  in_order zero at = tt
  in_order (suc n) at = go (ltb at (length text)) (found_at text at) (λ k. in_order n k)
    where
      go : (b : Bool) (f : GroupAnswer) → ((k : ℕ) → Sorted (λ (g h : Group). group_end g ≤ h.at) (sweep_in n text k))
          → Sorted (λ (g h : Group). group_end g ≤ h.at) (pick b (found_groups f ++ sweep_in n text (next_at at f)) [])
      go true (Found g) rest = (
        each_map (Fine (group_end g)) (λ (h : Group). group_end g ≤ h.at) (sweep_in n text (group_end g)) (λ h k. k.0) (each_fine n (group_end g)),
        rest (group_end g),
      )
      go true NoGroup rest = rest (at + 1)
      go false f rest = tt

  -- the group at `p` is this one, or `p` is inside this one
  abbrev Covers : ℕ → Group → Group → Type 0
  Covers p g h = (h ≡ g) ⊎ ((h.at < p) × (p < group_end h))

  -- the group found at `at` covers a place from there up to its end
  covers : (at p : ℕ) (g x : Group) → Admits text p g → found_at text at ≡ Found x → at ≤ p → p < group_end x → Covers p g x
  covers at p g x a e h l = go (dec_le p at)
    where
      go : Dec (p ≤ at) → Covers p g x
      go (yes k) =
          let q : at ≡ p = omega (arith, h, k) in
          let r : found_at text at ≡ Found g = subst (λ (y : ℕ). found_at text y ≡ Found g) (sym q) (admits_found p g a) in
          inl cc
      go (no k) = inr (omega (arith, (group_in_order text at x (found_admits at x e).1).0), l)

  -- and where nothing is found there is no group to cover
  passes : (at p : ℕ) (g : Group) → Admits text p g → found_at text at ≡ NoGroup → at ≤ p → at + 1 ≤ p
  passes at p g a e h = go (dec_le p at)
    where
      go : Dec (p ≤ at) → at + 1 ≤ p
      go (yes k) =
          let q : at ≡ p = omega (arith, h, k) in
          let r : found_at text at ≡ Found g = subst (λ (y : ℕ). found_at text y ≡ Found g) (sym q) (admits_found p g a) in
          absurd (let z : ◌≡◌ {A = ℕ} 0 1 = cc in omega (arith, z))
      go (no k) = omega arith

  every_one : (n at p : ℕ) (g : Group) → Admits text p g → at ≤ p → length text ≤ n + at → Some (Covers p g) (sweep_in n text at)
  unfolding sweep_in
  every_one zero at p g a h enough = absurd (omega (arith, opens_in text p a.0))
  every_one (suc n) at p g a h enough =
      rw (lt-ltb at (length text) (omega (arith, opens_in text p a.0)))
      (go (found_at text at) refl (λ k l m. every_one n k p g a l (omega (arith, enough, m))))
    where
      go : (f : GroupAnswer) → found_at text at ≡ f → ((k : ℕ) → k ≤ p → at < k → Some (Covers p g) (sweep_in n text k))
          → Some (Covers p g) (found_groups f ++ sweep_in n text (next_at at f))
      go (Found x) e rest = by_end (dec_le (group_end x) p)
        where
          by_end : Dec (group_end x ≤ p) → Some (Covers p g) (x ∷ sweep_in n text (group_end x))
          by_end (yes k) = inr (rest (group_end x) k (here at x e).1)
          by_end (no k) = inl (covers at p g x a e h (omega arith))
      go NoGroup e rest = rest (at + 1) (passes at p g a e h) (omega arith)

  pub all_found : AllOf text (sweep_of text)
  unfolding sweep_of
  all_found = record {
    admitted = each_map (Fine 0) (λ (g : Group). Admits text g.at g) (sweep_in (length text) text 0) (λ g k. k.1) (each_fine (length text) 0);
    apart = in_order (length text) 0;
    every = λ p g a. every_one (length text) 0 p g a (omega arith) (omega arith);
  }
