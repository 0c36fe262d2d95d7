-- A search for the last place with a property, by the option that it answers:
-- it answers the place where its definition ends.
use Prim.Native.Nat.{ℕ, zero, suc, ◌≤◌, ◌<◌}
use native.Mathlib.Omega.{arith}
use mathlib.Core.Path.{◌≡◌, sym}
use mathlib.Core.Bool.{Bool, true, false}
use Rattle.std.specs.Prelude.{Option, Some, None}
use Rattle.std.specs.Option.{unwrap_or}
use Rattle.base.specs.Pick.{pick}
use Rattle.base.specs.LastPlace.{last}
use Rattle.base.specs.Found.{Found}

-- a search that finds the same place, whatever stands for nothing
last_fixed : (f : ℕ → Bool) (n j : ℕ) → ((d : ℕ) → j ≡ last f n d) → j < n
unfolding last
last_fixed f zero j h = absurd (omega (arith, h 0, h 1))
last_fixed f (suc n) j h = go (f n) h (λ g. last_fixed f n j g)
  where
    go : (t : Bool) → ((d : ℕ) → j ≡ pick t n (last f n d)) → (((d : ℕ) → j ≡ last f n d) → j < n) → j < suc n
    go true g rec = omega (arith, g 0)
    go false g rec = omega (arith, rec g)

-- the last place below `k` where a test holds, as `base::search::last_place` finds it; `n` stands for nothing
pub found_last : (f : ℕ → Bool) (k n : ℕ) (r : Option ℕ) → ((d : ℕ) → unwrap_or r d ≡ last f k d) → k ≤ n → Found n (last f k n) r
found_last f k n None h l = sym (h n)
found_last f k n (Some j) h l = let b = last_fixed f k j h in (h n, omega arith)
