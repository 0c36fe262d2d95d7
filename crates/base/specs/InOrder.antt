-- Theorems: what is present of a row of spans,
-- and spans in order.
use Rattle.std.specs.Prelude.{ℕ, ◌+◌, ◌≤◌, List, [], ◌∷◌, eqb}
use Rattle.base.specs.Pick.{pick}
use Rattle.base.specs.declared.Span.{Span}

-- those of some spans that are there: "missing = 0 0"
unfoldable pub present_of : List Span → List Span
present_of [] = []
present_of (p ∷ ps) = pick (eqb p.len 0) (present_of ps) (p ∷ present_of ps)

-- the offsets never fall, the first being `lo` or more, and each span ends by `hi`
abbrev pub InOrder : ℕ → ℕ → List Span → Type 0
InOrder lo hi [] = Unit {0}
InOrder lo hi (p ∷ ps) = (lo ≤ p.at) × (p.at + p.len ≤ hi) × InOrder p.at hi ps
