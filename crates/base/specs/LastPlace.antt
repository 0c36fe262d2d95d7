-- Follows the code; nothing to believe: the last place with a property,
-- below a number.
use Rattle.std.specs.Prelude.{ℕ, zero, suc, Bool}
use Rattle.base.specs.Pick.{pick}

-- the last of the places below `n` at which a test holds; `d` where it holds at none
unfoldable pub last : (ℕ → Bool) → ℕ → ℕ → ℕ
last f zero d = d
last f (suc n) d = pick (f n) n (last f n d)
