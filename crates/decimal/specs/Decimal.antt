-- Document 01, throughout: numbers in decimal,
-- how many digits one has and which.
use Rattle.std.specs.Prelude.{ℕ, zero, suc, ◌+◌, ◌/◌, ◌%◌, List, [], ◌∷◌, ◌++◌, leb}
use Rattle.base.specs.Pick.{pick}

-- how many digits `n` has, `f + 1` at most
unfoldable pub count_in : ℕ → ℕ → ℕ
count_in zero n = 1
count_in (suc f) n = pick (leb 10 n) (suc (count_in f (n / 10))) 1

-- no number of 64 bits has more than 20
abbrev pub digit_count : ℕ → ℕ
digit_count n = count_in 19 n

-- the last `k` digits of `n`
unfoldable pub last_digits : ℕ → ℕ → List ℕ
last_digits zero n = []
last_digits (suc k) n = last_digits k (n / 10) ++ ((48 + n % 10) ∷ [])

-- a number of at most 64 bits in decimal
unfoldable pub decimal : ℕ → List ℕ
decimal n = last_digits (digit_count n) n
