-- Follows the code; nothing to believe: what a search below a number answers,
-- by the place where its definition ends.
use Rattle.std.specs.Prelude.{ℕ, ◌<◌, ◌≡◌, Option, MatchOption}

-- what a search before `k` answers: the place where it ends, or nothing where it ends at `k`
abbrev pub Found : ℕ → ℕ → Option ℕ → Type 0
Found k place answer = MatchOption answer (place ≡ k) (λ j. (j ≡ place) × (j < k))
