-- Follows the code; nothing to believe: a table of words and terms of the code,
-- as matchers.
use Rattle.std.specs.Prelude.{ℕ, List, [], ◌∷◌, Bool, true, ◌&&◌, length, ltb}
use Rattle.std.specs.Borrow.{Bor}
use Rattle.locator.specs.declared.Term.{Term}
use Rattle.locator.specs.Matchers.{Matcher, row}

-- the matchers of a table of words and terms, in its order
unfoldable pub matchers_in : List (Bor (List ℕ) × Term) → List Matcher
matchers_in [] = []
matchers_in (r ∷ rs) = row r.0.now r.1 ∷ matchers_in rs

-- no word of them is empty
unfoldable pub all_spelt : List Matcher → Bool
all_spelt [] = true
all_spelt (m ∷ ms) = ltb 0 (length m.word) && all_spelt ms
