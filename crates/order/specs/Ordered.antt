-- Follows the code; nothing to believe: reference order as the code makes it: the numbers of the sources' definitions are
-- inserted one after the other, by their ranks; then each is replaced by the number of its source.
use Rattle.std.specs.Prelude.{ℕ, zero, suc, ◌+◌, ◌≤◌, ◌<◌, ◌≡◌, List, Bool, true, false, get_or, set}
use Rattle.base.specs.Sorted.{Sorted}
use Rattle.definition.specs.Defined.{defined_as, found_in, definition_number, definition_at, key_by}
use Rattle.order.specs.Order.{less, author_or}
use Rattle.order.specs.References.{source_key_in, number_of_key}

module _ (text pool groups items : List ℕ) (n m : ℕ) where
  -- the number of the definition of source number `k`
  unfoldable pub definition_of : ℕ → ℕ
  definition_of k = definition_number pool n (found_in text groups items n pool (source_key_in text items m k))

  -- the number of the source that definition number `i` defines
  unfoldable pub source_by : ℕ → ℕ
  source_by i = number_of_key text items m (key_by text pool groups items (definition_at pool n i))

-- the bytes that the source of definition number `i` is ordered by
unfoldable pub rank_by : List ℕ → List ℕ → List ℕ → List ℕ → ℕ → ℕ → List ℕ
rank_by text pool groups items n i =
    author_or (defined_as text groups n pool (definition_at pool n i)) (key_by text pool groups items (definition_at pool n i))

-- the number at place `i` has a greater rank than these bytes
unfoldable pub greater_at : (ℕ → List ℕ) → List ℕ → List ℕ → ℕ → Bool
greater_at rank bytes numbers i = less bytes (rank (get_or numbers i 0))

-- a test that holds at a place, among the first `c`, holds at all after it
abbrev pub Rising : (ℕ → Bool) → ℕ → Type 0
Rising f c = (i j : ℕ) → i ≤ j → j < c → f i ≡ true → f j ≡ true

-- numbers in order: none has a lower rank than one before it
abbrev pub SortedBy : (ℕ → List ℕ) → List ℕ → Type 0
SortedBy rank l = Sorted (λ a b. less (rank b) (rank a) ≡ false) l

-- an area with `x` at place `i`, and the `n` numbers from there on one place further
unfoldable pub shifted : ℕ → List ℕ → ℕ → ℕ → List ℕ
shifted zero area i x = set area i x
shifted (suc n) area i x = shifted n (set area i x) (i + 1) (get_or area i 0)
