-- Document 01, throughout: a search from the end,
-- for the place after the last one with a property.
use Rattle.std.specs.Prelude.{ℕ, zero, suc, ◌+◌, Bool}
use Rattle.base.specs.Pick.{pick}

-- the end of the last of the `n` places from `i` on at which a test holds; `d` where it holds at none
unfoldable pub last_end : (ℕ → Bool) → ℕ → ℕ → ℕ → ℕ
last_end f zero i d = d
last_end f (suc n) i d = pick (f (i + n)) (suc (i + n)) (last_end f n i d)
