-- Theorems: the White_Space code points as a table,
-- and what the definitions say of them, proved in proofs/.
use Rattle.std.specs.Prelude.{ℕ, ◌+◌, ◌≤◌, ◌<◌, ◌≡◌, List, [], ◌∷◌, true, length, get_or}
use Rattle.base.specs.Lists.{part}
use Rattle.utf8.specs.Encoding.{encoding_of}
use Rattle.white.specs.White.{space_width, is_white}

-- the code points with the property White_Space (Unicode, PropList)
unfoldable pub white_spaces : List ℕ
white_spaces =
    0x0009 ∷ 0x000A ∷ 0x000B ∷ 0x000C ∷ 0x000D ∷ 0x0020 ∷ 0x0085 ∷ 0x00A0 ∷ 0x1680
    ∷ 0x2000 ∷ 0x2001 ∷ 0x2002 ∷ 0x2003 ∷ 0x2004 ∷ 0x2005 ∷ 0x2006 ∷ 0x2007 ∷ 0x2008 ∷ 0x2009 ∷ 0x200A
    ∷ 0x2028 ∷ 0x2029 ∷ 0x202F ∷ 0x205F ∷ 0x3000 ∷ []

-- "the 25 White_Space code points"
abbrev pub WhiteSpaces25 : Type 0
WhiteSpaces25 = length white_spaces ≡ 25

-- the bytes of number `k` of the table
abbrev pub white_bytes : ℕ → List ℕ
white_bytes k = encoding_of (get_or white_spaces k 0)

-- the encoding of number `k` of the table stands at place `i`
abbrev pub StandsAt : List ℕ → ℕ → ℕ → Type 0
StandsAt s i k = (k < length white_spaces) × (part s i (i + length (white_bytes k)) ≡ white_bytes k)

-- "Trims Unicode white space (the 25 White_Space code points)": where one of them stands, a white character of that width begins
abbrev pub WhiteHasWidth : Type 0
WhiteHasWidth = (s : List ℕ) (i k : ℕ) → StandsAt s i k → space_width s i ≡ length (white_bytes k)

-- where a white character begins, the encoding of one of the 25 code points stands
abbrev pub WidthIsWhite : Type 0
WidthIsWhite = (s : List ℕ) (i : ℕ) → 0 < space_width s i → (k : ℕ) × StandsAt s i k

-- every byte of one of them is white
abbrev pub BytesAreWhite : Type 0
BytesAreWhite = (s : List ℕ) (i j k : ℕ) → StandsAt s i k → i ≤ j → j < i + length (white_bytes k) → is_white s j ≡ true

-- a white byte is a byte of the encoding of one of the 25 code points
abbrev pub WhiteIsByte : Type 0
WhiteIsByte = (s : List ℕ) (j : ℕ) → is_white s j ≡ true → (i : ℕ) × (k : ℕ) × StandsAt s i k × (i ≤ j) × (j < i + length (white_bytes k))
