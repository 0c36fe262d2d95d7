-- Follows the code; nothing to believe: bytes that are no white space by themselves,
-- whatever stands around them.
use Rattle.std.specs.Prelude.{ℕ, Bool}
use Rattle.base.specs.Lists.{within}

-- an ASCII graphic character, `!` to `~`
abbrev pub is_ascii_graphic : ℕ → Bool
is_ascii_graphic b = within 33 126 b
