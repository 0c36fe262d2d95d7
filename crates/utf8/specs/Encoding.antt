-- Theorems: the encoding of code points as bytes (RFC 3629, section 3),
-- and the code points of a text.
use Rattle.std.specs.Prelude.{ℕ, zero, suc, ◌+◌, ◌-◌, ◌*◌, ◌/◌, ◌%◌, List, [], ◌∷◌, ◌++◌, Bool, ◌&&◌, not, length, leb, ltb}
use Rattle.base.specs.Pick.{pick}
use Rattle.base.specs.Lists.{byte_at, within}
use Rattle.utf8.specs.Utf8.{char_width}

-- a code point that UTF-8 encodes: up to 10FFFF, and none of the surrogates D800 to DFFF
abbrev pub is_scalar : ℕ → Bool
is_scalar c = leb c 0x10FFFF && not (within 0xD800 0xDFFF c)

-- a byte of six bits after the first
abbrev pub tail : ℕ → ℕ
tail bits = 0x80 + bits % 64

-- the bytes of one code point: one up to 7F, two up to 7FF, three up to FFFF, else four
unfoldable pub encoding_of : ℕ → List ℕ
encoding_of c =
    pick (leb c 0x7F) (c ∷ [])
    (pick (leb c 0x7FF) ((0xC0 + c / 64) ∷ tail c ∷ [])
    (pick (leb c 0xFFFF) ((0xE0 + c / 4096) ∷ tail (c / 64) ∷ tail c ∷ [])
    ((0xF0 + c / 262144) ∷ tail (c / 4096) ∷ tail (c / 64) ∷ tail c ∷ [])))

-- the bytes of a list of code points
unfoldable pub encoded : List ℕ → List ℕ
encoded [] = []
encoded (c ∷ cs) = encoding_of c ++ encoded cs

-- the code point that is encoded as these bytes, the first of which tells how many they are
unfoldable pub code_by : ℕ → ℕ → ℕ → ℕ → ℕ
code_by a b c d =
    pick (leb a 0x7F) a
    (pick (leb a 0xDF) ((a - 0xC0) * 64 + (b - 0x80))
    (pick (leb a 0xEF) ((a - 0xE0) * 4096 + (b - 0x80) * 64 + (c - 0x80))
    ((a - 0xF0) * 262144 + (b - 0x80) * 4096 + (c - 0x80) * 64 + (d - 0x80))))

-- the code point at place `i`
abbrev pub code_at : List ℕ → ℕ → ℕ
code_at s i = code_by (byte_at s i) (byte_at s (i + 1)) (byte_at s (i + 2)) (byte_at s (i + 3))

-- the code points from place `i` on, at most `turns` of them
unfoldable pub decoded_in : ℕ → List ℕ → ℕ → List ℕ
decoded_in zero s i = []
decoded_in (suc turns) s i = pick (ltb i (length s)) (code_at s i ∷ decoded_in turns s (i + char_width s i)) []

-- the code points of a text; a character has a byte or more, so as many turns as bytes are enough
unfoldable pub decoded : List ℕ → List ℕ
decoded s = decoded_in (length s) s 0
