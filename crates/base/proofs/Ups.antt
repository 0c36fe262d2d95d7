-- The whole numbers from a number on: how many they are,
-- and the one at a place.
use Prim.Native.Nat.{ℕ, zero, suc, ◌+◌, ◌<◌}
use native.Mathlib.Omega.{arith}
use mathlib.Core.Path.{◌≡◌, refl, ◌∙◌, ap}
use mathlib.Core.List.{map}
use lib.ListN.{length, get_or}
use Rattle.base.specs.Lists.{up_from}

pub up_length : (i n : ℕ) → length (up_from i n) ≡ n
unfolding up_from
up_length i zero = refl
up_length i (suc n) = ap suc (up_length (suc i) n)

pub up_at : (f : ℕ → ℕ) (i n p : ℕ) → p < n → get_or (map f (up_from i n)) p 0 ≡ f (i + p)
unfolding up_from
up_at f i zero p h = absurd (omega arith)
up_at f i (suc n) zero h = ap f (let e : i ≡ i + 0 = omega arith in e)
up_at f i (suc n) (suc p) h = up_at f (suc i) n p (omega arith) ∙ ap f (let e : suc i + p ≡ i + suc p = omega arith in e)
