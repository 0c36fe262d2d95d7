-- Follows the code; nothing to believe: the step of the code's loop over a value,
-- by how far the value goes before and after it.
use Rattle.std.specs.Prelude.{ℕ, ◌≡◌, ◌<◌, ◌≤◌, List, length}
use Rattle.locator.specs.Locators.{value_run}

-- the value that has reached `k` goes on at `n`, in a text that ends where the locator does
abbrev pub GoesOn : List ℕ → ℕ → ℕ → Type 0
GoesOn s k n = (k < n) × (n ≤ length s) × (value_run s k (length s) ≡ value_run s n (length s))
