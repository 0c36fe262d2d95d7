-- Follows the code; nothing to believe: numbers that `answer` can hold,
-- which are those of a `u32`.
use Rattle.std.specs.Prelude.{ℕ, ◌<◌, List}
use Rattle.base.specs.Sorted.{Each}

-- one more than the largest `u32`
abbrev pub word_bound : ℕ
word_bound = 4294967296

-- each fits a `u32`
unfoldable pub Words : List ℕ → Type 0
Words ns = Each (λ (n : ℕ). n < word_bound) ns
