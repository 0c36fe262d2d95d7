-- Follows the code; nothing to believe: a brace or a break,
-- in one search.
use Rattle.std.specs.Prelude.{ℕ, ◌-◌, List, ◌||◌, eqb}
use Rattle.base.specs.First.{first}
use Rattle.base.specs.Lists.{byte_at}

-- the first of both from `a` up to `e`: where the search for the end of attributes may stop
unfoldable pub brace_or_break : List ℕ → ℕ → ℕ → ℕ
brace_or_break text a e = first (λ i. eqb (byte_at text i) 125 || eqb (byte_at text i) 10) (e - a) a
