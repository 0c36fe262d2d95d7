-- Follows the code; nothing to believe: a standing by its number,
-- as the group record has it.
use Rattle.std.specs.Prelude.{ℕ}
use Rattle.standing.specs.declared.Standing.{Standing}
use Rattle.standing.specs.declared.Standing.TheVariants.{DefinitionLine, KeyUndefined, Numbered}

abbrev pub standing_number : Standing → ℕ
standing_number DefinitionLine = 0
standing_number KeyUndefined = 1
standing_number Numbered = 2
