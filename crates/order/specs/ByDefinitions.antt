-- Follows the code; nothing to believe: ranks, numbers and reference order,
-- by the definitions that the code passes.
use Rattle.std.specs.Prelude.{ℕ, List}
use Rattle.definition.specs.declared.Definitions.{Definitions}
use Rattle.order.specs.Ordered.{rank_by, definition_of, source_by}
use Rattle.order.specs.References.{rank_in, SourcesKnown, references_in}

-- the bytes that the source of definition number `i` is ordered by
abbrev pub rank_of : Definitions → ℕ → List ℕ
rank_of d i = rank_by d.text.now d.pool.bytes.now d.groups.now d.items.now d.n i

-- the number of the definition of source number `k`
abbrev pub number_of : Definitions → ℕ → ℕ → ℕ
number_of d m k = definition_of d.text.now d.pool.bytes.now d.groups.now d.items.now d.n m k

-- the number of the source that definition number `i` defines
abbrev pub source_of : Definitions → ℕ → ℕ → ℕ
source_of d m i = source_by d.text.now d.pool.bytes.now d.groups.now d.items.now d.n m i

-- the rank of source number `k`
abbrev pub source_rank : Definitions → ℕ → ℕ → List ℕ
source_rank d m k = rank_in d.text.now d.pool.bytes.now d.groups.now d.items.now d.n m k

-- the sources up to `sources` have keys
abbrev pub Known : Definitions → ℕ → ℕ → Type 0
Known d m sources = SourcesKnown d.text.now d.pool.bytes.now d.groups.now d.items.now d.n m sources

-- the numbers of the sources in reference order
abbrev pub references_of : Definitions → ℕ → ℕ → ℕ → List ℕ
references_of d m mode sources = references_in d.text.now d.pool.bytes.now d.groups.now d.items.now d.n m mode sources
