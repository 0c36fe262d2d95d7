-- Follows the code; nothing to believe: the numbers and the text
-- in the bytes of a stored record.
use Rattle.std.specs.Prelude.{ℕ, ◌+◌, ◌*◌, ◌≤◌, List, [], ◌∷◌, drop}
use Rattle.records.specs.Widths.{item_width, group_width}

-- the number in the first two bytes, the lower one first; 0 where there are fewer
unfoldable pub two_bytes : List ℕ → ℕ
two_bytes [] = 0
two_bytes (low ∷ []) = 0
two_bytes (low ∷ high ∷ rest) = low + 256 * high

-- the number in the first three bytes, the lowest first; 0 where there are fewer
unfoldable pub three_bytes : List ℕ → ℕ
three_bytes [] = 0
three_bytes (low ∷ []) = 0
three_bytes (low ∷ middle ∷ []) = 0
three_bytes (low ∷ middle ∷ high ∷ rest) = low + 256 * middle + 65536 * high

-- the number in the two bytes at a place
abbrev pub number_at : List ℕ → ℕ → ℕ
number_at bytes at = two_bytes (drop at bytes)

-- the number in the three bytes at a place
abbrev pub length_at : List ℕ → ℕ → ℕ
length_at bytes at = three_bytes (drop at bytes)

-- the text of a session: what the body ends with
abbrev pub text_of : List ℕ → List ℕ
text_of bytes = drop (length_at bytes 0) bytes

-- areas of these lengths have the records and the label bytes that an annotation counts
abbrev pub HasLengths : List ℕ → ℕ → ℕ → ℕ → ℕ → Type 0
HasLengths part groups items references labels =
    (group_width * number_at part 6 ≤ groups) × (item_width * number_at part 8 ≤ items) × (number_at part 10 ≤ references) × (number_at part 12 ≤ labels)
