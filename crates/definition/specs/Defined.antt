-- Follows the code; nothing to believe: what defines a key, as the code finds it:
-- a line by its group number, or an entry of the pool by its number.
use Rattle.std.specs.Prelude.{ℕ, ◌+◌, ◌-◌, ◌<◌, List, [], ltb, Option, Some, None}
use Rattle.std.proofs.Math.Option.{Option as Maybe, none, some}
use Rattle.base.specs.Pick.{pick}
use Rattle.pool.specs.Layout.{count_of, entry_at}
use Rattle.definition.specs.Defs.{Def, entry_def}
use Rattle.definition.specs.declared.defined.Definition.{Definition}
use Rattle.definition.specs.declared.defined.Definition.TheVariants.{Line, Entry}
use Rattle.definition.specs.Lines.{line_in, line_def_in}
use Rattle.records.specs.Records.{key_in}
use Rattle.records.specs.Fields.{group_field}
use Rattle.definition.specs.Entries.{entry_in}
use Rattle.records.specs.Widths.{group_first}

-- the definition that was found
unfoldable pub defined_as : List ℕ → List ℕ → ℕ → List ℕ → Option Definition → Maybe Def
defined_as text groups n pool (Some (Line g)) = some (line_def_in text groups n g)
defined_as text groups n pool (Some (Entry i)) = some (entry_def i (entry_at pool i))
defined_as text groups n pool None = none

-- what was found is one of `n` groups, or of the pool's entries
abbrev pub DefinedIn : List ℕ → ℕ → Option Definition → Type 0
DefinedIn pool n (Some (Line g)) = g < n
DefinedIn pool n (Some (Entry i)) = i < count_of pool
DefinedIn pool n None = Unit {0}

-- what the key is defined by: its last definition line, else the first entry of the pool that has it as its id
unfoldable pub found_in : List ℕ → List ℕ → List ℕ → ℕ → List ℕ → List ℕ → Option Definition
found_in text groups items n pool key =
    pick (ltb (line_in text groups items n key) n)
    (Some (Line (line_in text groups items n key)))
    (pick (ltb (entry_in pool key) (count_of pool)) (Some (Entry (entry_in pool key))) None)

-- Definitions have numbers: a line that of its group, an entry of the pool its own after those of the `n` groups; nothing comes last.
unfoldable pub definition_number : List ℕ → ℕ → Option Definition → ℕ
definition_number pool n (Some (Line g)) = g
definition_number pool n (Some (Entry i)) = n + i
definition_number pool n None = n + count_of pool

-- the definition that has a number
unfoldable pub definition_at : List ℕ → ℕ → ℕ → Option Definition
definition_at pool n i = pick (ltb i n) (Some (Line i)) (pick (ltb (i - n) (count_of pool)) (Some (Entry (i - n))) None)

-- the key that it defines
unfoldable pub key_by : List ℕ → List ℕ → List ℕ → List ℕ → Option Definition → List ℕ
key_by text pool groups items (Some (Line g)) = key_in text items (group_field groups g group_first)
key_by text pool groups items (Some (Entry i)) = (entry_at pool i).id
key_by text pool groups items None = []
