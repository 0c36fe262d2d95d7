-- Follows the code; nothing to believe: the number and the use of an item record, by the last one before it with the same key,
-- and the place where they stand in its record.
use Rattle.std.specs.Prelude.{ℕ, ◌+◌, ◌*◌, ◌%◌, List, Bool, ◌&&◌, set, eqb, ltb, ◌≤◌, ◌≡◌}
use Rattle.base.specs.Pick.{pick}
use Rattle.base.specs.LastPlace.{last}
use Rattle.base.specs.Lists.{same}
use Rattle.records.specs.Widths.{item_width, item_number, item_marks, item_use, item_label, item_label_length}
use Rattle.records.specs.Records.{key_in}
use Rattle.records.specs.Fields.{item_field}
use Rattle.uses.specs.declared.Count.{Count}

-- item record `j` is numbered, and has this key
abbrev pub used_at : List ℕ → List ℕ → List ℕ → ℕ → Bool
used_at text items key j = ltb 0 (item_field items j item_number) && same (key_in text items j) key

-- item record `j` is numbered, and has the key of record `k`
unfoldable pub same_use : List ℕ → List ℕ → ℕ → ℕ → Bool
same_use text items k j = used_at text items (key_in text items k) j

-- the last such record before `k`; `k` where there is none
unfoldable pub last_use : List ℕ → List ℕ → ℕ → ℕ
last_use text items k = last (same_use text items k) k k

-- item record `j` has this number, this mark of suppression and this key
abbrev pub alike_at : List ℕ → List ℕ → ℕ → ℕ → List ℕ → ℕ → Bool
alike_at text items number mark key j =
    eqb (item_field items j item_number) number && eqb (item_field items j item_marks) mark && same (key_in text items j) key

-- item record `j` has this number, and the mark of suppression and the key of record `k`
unfoldable pub same_label : List ℕ → List ℕ → ℕ → ℕ → ℕ → Bool
same_label text items k number j = alike_at text items number (item_field items k item_marks) (key_in text items k) j

-- the last such record before `k`; `k` where there is none
unfoldable pub last_alike : List ℕ → List ℕ → ℕ → ℕ → ℕ
last_alike text items k number = last (same_label text items k number) k k

-- the number of item record `k`, `sources` being those so far. (A record's number is a u16.)
unfoldable pub number_in : List ℕ → List ℕ → ℕ → ℕ → ℕ
number_in text items sources k =
    pick (ltb (last_use text items k) k) (item_field items (last_use text items k) item_number) ((sources + 1) % 65536)

-- the use of item record `k`: one more than that of the last record with its key; 0 without a pool
unfoldable pub use_in : List ℕ → List ℕ → Bool → ℕ → ℕ
use_in text items pooled k =
    pick pooled (pick (ltb (last_use text items k) k) ((item_field items (last_use text items k) item_use + 1) % 65536) 1) 0

-- the sources after item record `k`
unfoldable pub sources_in : List ℕ → List ℕ → ℕ → ℕ → ℕ
sources_in text items sources k = pick (ltb (last_use text items k) k) sources (sources + 1)

-- number, use and label pair of item record `k`, its last four numbers
unfoldable pub set_last : List ℕ → ℕ → ℕ → ℕ → ℕ → ℕ → List ℕ
set_last items k number use_as at len =
    set
    (set
    (set
    (set items (item_width * k + item_number) number)
    (item_width * k + item_use) use_as)
    (item_width * k + item_label) at)
    (item_width * k + item_label_length) len

-- the number and the use of item record `k`, and the sources after it
pub record Counts (text items : List ℕ) (pooled : Bool) (before k : ℕ) (r : Count) : Type 0 where
  pub number : r.number ≡ number_in text items before k
  pub use_as : r.use_index ≡ use_in text items pooled k
  pub sources : r.sources ≡ sources_in text items before k
  pub more : r.sources ≤ before + 1
