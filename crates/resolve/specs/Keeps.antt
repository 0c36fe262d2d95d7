-- Theorems: what a call leaves of the index area that it is lent,
-- whole or with fewer records than the text has bytes.
use Rattle.std.specs.Prelude.{ℕ, ◌<◌, ◌≡◌, List, length}

-- What a call leaves of the index that it is lent: its length; and, where it is lent fewer records than the text has bytes, index and note
-- as they were. (It is refused then, by 9 or by a number before it.)
pub record Keeps (text index after : List ℕ) (note note_after : ℕ) : Type 0 where
  pub same_length : length after ≡ length index
  pub too_few : length index < length text → after ≡ index
  pub too_few_note : length index < length text → note_after ≡ note
