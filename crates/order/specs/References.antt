-- Follows the code; nothing to believe: reference order,
-- from the records.
use Rattle.std.specs.Prelude.{ℕ, ◌≤◌, ◌≡◌, List, Bool, true, eqb}
use Rattle.base.specs.First.{first}
use Rattle.definition.specs.Defs.{is_defined}
use Rattle.definition.specs.Definitions.{definition_in}
use Rattle.records.specs.Records.{key_in}
use Rattle.records.specs.Fields.{item_field}
use Rattle.uses.specs.Uses.{used_at}
use Rattle.order.specs.Order.{author_or, reference_order}
use Rattle.records.specs.Widths.{item_number}

-- item record `j` has the number `k`
unfoldable pub has_number : List ℕ → ℕ → ℕ → Bool
has_number items k j = eqb (item_field items j item_number) k

-- the first of `m` item records that has the number `k`; `m` where there is none
unfoldable pub first_with : List ℕ → ℕ → ℕ → ℕ
first_with items m k = first (has_number items k) m 0

-- the key of source number `k`
unfoldable pub source_key_in : List ℕ → List ℕ → ℕ → ℕ → List ℕ
source_key_in text items m k = key_in text items (first_with items m k)

module _ (text pool groups items : List ℕ) (n m : ℕ) where
  -- the rank of source number `k`
  unfoldable pub rank_in : ℕ → List ℕ
  rank_in k = author_or (definition_in text groups items n pool (source_key_in text items m k)) (source_key_in text items m k)

  -- the numbers of the sources in reference order
  unfoldable pub references_in : ℕ → ℕ → List ℕ
  references_in mode sources = reference_order mode rank_in sources

-- the number of the first of `m` item records that is numbered and has this key
unfoldable pub number_of_key : List ℕ → List ℕ → ℕ → List ℕ → ℕ
number_of_key text items m key = item_field items (first (used_at text items key) m 0) item_number

-- The sources have keys: that of each number up to `sources` is defined, and is that of no other number.
pub record SourcesKnown (text pool groups items : List ℕ) (n m sources : ℕ) : Type 0 where
  pub defined : (k : ℕ) → 1 ≤ k → k ≤ sources
      → is_defined (definition_in text groups items n pool (source_key_in text items m k)) ≡ true
  pub numbered : (k : ℕ) → 1 ≤ k → k ≤ sources → number_of_key text items m (source_key_in text items m k) ≡ k
