-- Follows the code; nothing to believe: the words that are left,
-- as the definition of the attributes has them.
use Rattle.std.specs.Prelude.{ℕ, List, length}
use Rattle.attributes.specs.declared.Words.{Words}
use Rattle.attributes.specs.Attributes.{words_in}

-- the words that are left
abbrev pub words_left : Words → List (List ℕ)
words_left w = words_in (length w.attributes.now) w.attributes.now w.from
