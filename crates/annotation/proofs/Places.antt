-- What one more use of a key does to the places
-- and the uses of keys among the sources.
use Prim.Native.Nat.{ℕ, suc, ◌+◌, ◌≤◌, ◌<◌}
use native.Mathlib.Omega.{arith}
use mathlib.Core.Path.{◌≡◌, refl, ap}
use mathlib.Core.List.{List, [], ◌∷◌, map}
use mathlib.Core.Bool.{Bool, true, false}
use lib.ListN.{length, get_or}
use Rattle.base.specs.Pick.{pick}
use Rattle.base.specs.Lists.{same}
use Rattle.annotation.specs.Sources.{Source, source, place_of, uses_of, used}
use Rattle.base.proofs.Sames.{same_refl, same_true}

-- its own uses are one more
pub uses_used : (key : List ℕ) (ss : List Source) → uses_of key (used key ss) ≡ uses_of key ss + 1
unfolding uses_of used
uses_used key [] = rw (same_refl key)
uses_used key (s ∷ ss) = go (same s.key key) refl (uses_used key ss)
  where
    go : (t : Bool) → same s.key key ≡ t → uses_of key (used key ss) ≡ uses_of key ss + 1
        → uses_of key (pick t (source s.key (s.uses + 1) ∷ ss) (s ∷ used key ss)) ≡ pick t s.uses (uses_of key ss) + 1
    go true q r = rw q
    go false q r = rw q r

-- those of any other key are as they were
pub uses_other : (x key : List ℕ) (ss : List Source) → same key x ≡ false → uses_of x (used key ss) ≡ uses_of x ss
unfolding uses_of used
uses_other x key [] h = rw h
uses_other x key (s ∷ ss) h = go (same s.key key) refl (uses_other x key ss h)
  where
    go : (t : Bool) → same s.key key ≡ t → uses_of x (used key ss) ≡ uses_of x ss
        → uses_of x (pick t (source s.key (s.uses + 1) ∷ ss) (s ∷ used key ss)) ≡ pick (same s.key x) s.uses (uses_of x ss)
    go true q r = rw (same_true s.key key q, h)
    go false q r = rw r

-- so none passes a bound by more than one
pub uses_most : (x key : List ℕ) (ss : List Source) → uses_of x (used key ss) ≤ uses_of x ss + 1
uses_most x key ss = go (same key x) refl
  where
    go : (t : Bool) → same key x ≡ t → uses_of x (used key ss) ≤ uses_of x ss + 1
    go true q = rw (same_true key x q) (omega (arith, uses_used x ss))
    go false q = omega (arith, uses_other x key ss q)

-- a key that is none of them was not used
pub uses_none : (key : List ℕ) (ss : List Source) → place_of key ss ≡ length ss → uses_of key ss ≡ 0
unfolding place_of uses_of
uses_none key [] h = refl
uses_none key (s ∷ ss) h = go (same s.key key) h (uses_none key ss)
  where
    go : (t : Bool) → pick t 0 (suc (place_of key ss)) ≡ suc (length ss) → (place_of key ss ≡ length ss → uses_of key ss ≡ 0)
        → pick t s.uses (uses_of key ss) ≡ 0
    go true q r = absurd (omega arith)
    go false q r = r (omega arith)

-- how many sources there are then
pub used_old : (key : List ℕ) (ss : List Source) → place_of key ss < length ss → length (used key ss) ≡ length ss
unfolding place_of used
used_old key [] h = absurd (omega arith)
used_old key (s ∷ ss) h = go (same s.key key) h (used_old key ss)
  where
    go : (t : Bool) → pick t 0 (suc (place_of key ss)) < suc (length ss) → (place_of key ss < length ss → length (used key ss) ≡ length ss)
        → length (pick t (source s.key (s.uses + 1) ∷ ss) (s ∷ used key ss)) ≡ suc (length ss)
    go true q r = refl
    go false q r = ap suc (r (omega arith))

pub used_new : (key : List ℕ) (ss : List Source) → place_of key ss ≡ length ss → length (used key ss) ≡ length ss + 1
unfolding place_of used
used_new key [] h = refl
used_new key (s ∷ ss) h = go (same s.key key) h (used_new key ss)
  where
    go : (t : Bool) → pick t 0 (suc (place_of key ss)) ≡ suc (length ss) → (place_of key ss ≡ length ss → length (used key ss) ≡ length ss + 1)
        → length (pick t (source s.key (s.uses + 1) ∷ ss) (s ∷ used key ss)) ≡ suc (length ss) + 1
    go true q r = absurd (omega arith)
    go false q r = omega (arith, r (omega arith))

pub used_most : (key : List ℕ) (ss : List Source) → length (used key ss) ≤ length ss + 1
unfolding used
used_most key [] = omega arith
used_most key (s ∷ ss) = go (same s.key key) (used_most key ss)
  where
    go : (t : Bool) → length (used key ss) ≤ length ss + 1
        → length (pick t (source s.key (s.uses + 1) ∷ ss) (s ∷ used key ss)) ≤ suc (length ss) + 1
    go true r = omega arith
    go false r = omega arith

-- a key that is none of them still is, unless it was the one
pub place_other : (x key : List ℕ) (ss : List Source) → same key x ≡ false → place_of x ss ≡ length ss
    → place_of x (used key ss) ≡ length (used key ss)
unfolding place_of used
place_other x key [] h e = rw h
place_other x key (s ∷ ss) h e = go (same s.key key) refl (same s.key x) refl e (place_other x key ss h)
  where
    go : (t : Bool) → same s.key key ≡ t → (u : Bool) → same s.key x ≡ u → pick u 0 (suc (place_of x ss)) ≡ suc (length ss)
        → (place_of x ss ≡ length ss → place_of x (used key ss) ≡ length (used key ss))
        → place_of x (pick t (source s.key (s.uses + 1) ∷ ss) (s ∷ used key ss)) ≡ length (pick t (source s.key (s.uses + 1) ∷ ss) (s ∷ used key ss))
    go t q true p l r = absurd (omega arith)
    go true q false p l r = rw p l
    go false q false p l r = rw p (ap suc (r (omega arith)))

-- the key at the place of a key
pub place_key : (x : List ℕ) (ss : List Source) → place_of x ss < length ss → get_or (map (λ (s : Source). s.key) ss) (place_of x ss) [] ≡ x
unfolding place_of
place_key x [] h = absurd (omega arith)
place_key x (s ∷ ss) h = go (same s.key x) refl h (place_key x ss)
  where
    go : (t : Bool) → same s.key x ≡ t → pick t 0 (suc (place_of x ss)) < suc (length ss)
        → (place_of x ss < length ss → get_or (map (λ (s : Source). s.key) ss) (place_of x ss) [] ≡ x)
        → get_or (s.key ∷ map (λ (s : Source). s.key) ss) (pick t 0 (suc (place_of x ss))) [] ≡ x
    go true q l r = same_true s.key x q
    go false q l r = r (omega arith)
