-- Follows the code; nothing to believe: the layout, a field and a pair at a time,
-- as the loops of the check go.
use Rattle.std.specs.Prelude.{ℕ, ◌≡◌, List, Bool, true, ◌&&◌, length, drop, eqb, leb}
use Rattle.pool.specs.Fields.{Field, field_end, field_at, good_from, entry_good}
use Rattle.pool.specs.Layout.{offset_of, end_of}

-- a field stands at the front of some bytes
unfoldable pub has_field : List ℕ → Bool
has_field s = leb 3 (length s) && leb (field_end s 0) (length s)

-- the field at the front of some bytes, and the bytes after it
pub record Split (s : List ℕ) (f : Field) (others : List ℕ) : Type 0 where
  pub room : has_field s ≡ true
  pub field : f ≡ field_at s 0
  pub rest : others ≡ drop (field_end s 0) s

-- some bytes are fields after one with the tag `last`, to the end of an entry
abbrev pub good_rest : ℕ → List ℕ → Bool
good_rest last s = good_from last s 0 (length s)

-- entry `i` begins at `at`, and is one
unfoldable pub pair_good : List ℕ → ℕ → ℕ → Bool
pair_good pool i at = eqb (offset_of pool i) at && leb (end_of pool i) (length pool) && entry_good pool at (end_of pool i)
