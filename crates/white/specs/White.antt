-- Document 01, Corners of the Rust: white space, "the 25 White_Space code points",
-- by the bytes of their encodings.
use Rattle.std.specs.Prelude.{ℕ, ◌+◌, ◌-◌, List, Bool, ◌&&◌, ◌||◌, eqb, ltb}
use Rattle.base.specs.Pick.{pick}
use Rattle.base.specs.Lists.{byte_at, within}

-- a White_Space character of one byte: U+0009 to U+000D, U+0020
abbrev pub white_one : ℕ → Bool
white_one a = within 0x09 0x0D a || eqb a 0x20

-- a White_Space character of two bytes: U+0085, U+00A0
abbrev pub white_two : ℕ → ℕ → Bool
white_two a b = eqb a 0xC2 && (eqb b 0x85 || eqb b 0xA0)

-- a White_Space character of three bytes: U+1680; U+2000 to U+200A, U+2028, U+2029, U+202F; U+205F; U+3000
abbrev pub white_three : ℕ → ℕ → ℕ → Bool
white_three a b c =
    eqb a 0xE1 && eqb b 0x9A && eqb c 0x80
    || eqb a 0xE2 && eqb b 0x80 && (within 0x80 0x8A c || eqb c 0xA8 || eqb c 0xA9 || eqb c 0xAF)
    || eqb a 0xE2 && eqb b 0x81 && eqb c 0x9F
    || eqb a 0xE3 && eqb b 0x80 && eqb c 0x80

-- how many bytes the White_Space character has that begins at place `i`; 0 where none does
unfoldable pub space_width : List ℕ → ℕ → ℕ
space_width s i =
    pick (white_one (byte_at s i)) 1
    (pick (white_two (byte_at s i) (byte_at s (i + 1))) 2
    (pick (white_three (byte_at s i) (byte_at s (i + 1)) (byte_at s (i + 2))) 3
    0))

-- the byte at `i` is part of a White_Space character: its first, its second or its third. (At the text's start `i - 1` and `i - 2`
-- stop at 0, the first byte of the same character.)
unfoldable pub is_white : List ℕ → ℕ → Bool
is_white s i = ltb 0 (space_width s i) || ltb 1 (space_width s (i - 1)) || ltb 2 (space_width s (i - 2))
