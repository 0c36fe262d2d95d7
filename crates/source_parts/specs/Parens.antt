-- Document 01, Corners of the Rust: the year
-- in parentheses.
use Rattle.std.specs.Prelude.{ℕ, List, [], ◌∷◌, ◌++◌}
use Rattle.std.proofs.Math.Option.{Option, none, some}

-- "the year, even an empty one, in parentheses"
unfoldable pub in_parens : Option (List ℕ) → List ℕ
in_parens none = []
in_parens (some year) = 40 ∷ (year ++ (41 ∷ []))
