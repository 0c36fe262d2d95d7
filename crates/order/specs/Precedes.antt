-- Document 01, Added by design: a list in reference order,
-- by which of two numbers comes first.
use Rattle.std.specs.Prelude.{ℕ, ◌<◌, ◌≡◌, List, ◌⊎◌, true}
use Rattle.order.specs.Order.{less}

-- number `m` comes before number `n`: it has the lesser rank, or the same rank and is the lesser
abbrev pub Precedes : (ℕ → List ℕ) → ℕ → ℕ → Type 0
Precedes rank m n = (less (rank m) (rank n) ≡ true) ⊎ ((rank m ≡ rank n) × (m < n))
