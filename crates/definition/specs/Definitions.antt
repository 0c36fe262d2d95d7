-- Follows the code; nothing to believe: what a key is defined as,
-- by the records and the pool.
use Rattle.std.specs.Prelude.{ℕ, List}
use Rattle.std.proofs.Math.Option.{Option}
use Rattle.definition.specs.Defs.{Def}
use Rattle.definition.specs.Defined.{defined_as, found_in}

-- what the key is defined as: `def_of` of specs/Defs, by the records
unfoldable pub definition_in : List ℕ → List ℕ → List ℕ → ℕ → List ℕ → List ℕ → Option Def
definition_in text groups items n pool key = defined_as text groups n pool (found_in text groups items n pool key)
