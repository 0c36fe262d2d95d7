-- Follows the code; nothing to believe: the first entry of a pool
-- that defines a key.
use Rattle.std.specs.Prelude.{ℕ, List, Bool}
use Rattle.base.specs.First.{first}
use Rattle.pool.specs.Layout.{count_of, entry_at}
use Rattle.definition.specs.Defs.{entry_defines}

-- entry number `i` of a pool defines the key
unfoldable pub entry_has : List ℕ → List ℕ → ℕ → Bool
entry_has pool key i = entry_defines key (entry_at pool i)

-- the number of the first entry that defines the key; the count of entries where there is none
unfoldable pub entry_in : List ℕ → List ℕ → ℕ
entry_in pool key = first (entry_has pool key) (count_of pool) 0
