-- Follows the code; nothing to believe: what the code holds on the way
-- through the records.
use Rattle.std.specs.Prelude.{ℕ, ◌+◌, ◌*◌, ◌<◌, ◌≤◌, min, ◌≡◌, List, length, take, drop, leb, Option, is_some, IfSome}
use Rattle.base.specs.Lists.{written}
use Rattle.numbering.specs.declared.Numbering.{Numbering}
use Rattle.records.specs.Widths.{item_width, item_number, item_label, item_label_length}
use Rattle.records.specs.Records.{key_in, suppressed_in}
use Rattle.records.specs.Fields.{item_field}
use Rattle.numbering.specs.Numbers.{Numbered, record_label}

-- item record `j` has this number, which is not 0, and the mark of suppression and the key of record `k`
pub record Alike (text items : List ℕ) (k number j : ℕ) : Type 0 where
  pub some : 0 < number
  pub numbered : item_field items j item_number ≡ number
  pub mark : suppressed_in items j ≡ suppressed_in items k
  pub key : key_in text items j ≡ key_in text items k

-- the most label bytes that fit: no more than the area has, and than a pair can say
abbrev pub room_of : List ℕ → ℕ
room_of labels = min 65535 (length labels)

-- the counts of sources and of label bytes
abbrev pub numbering_of : ℕ → ℕ → Numbering
numbering_of sources label_bytes = record { sources = sources; label_bytes = label_bytes }

-- The areas have what `t` says, its labels at the front of an area that held `before`.
pub record Agrees (t : Numbered) (before : List ℕ) (s : Numbering) (items groups labels : List ℕ) : Type 0 where
  pub sources : s.sources ≡ t.sources
  pub label_bytes : s.label_bytes ≡ length t.labels
  pub item_area : items ≡ t.items
  pub group_area : groups ≡ t.groups
  pub label_area : labels ≡ written t.labels before
  pub label_long : length labels ≡ length before

-- They have it where its labels fit. Where those do not, nothing is said of the areas.
pub record Holds (t : Numbered) (room : ℕ) (before : List ℕ) (r : Option Numbering) (items groups labels : List ℕ) : Type 0 where
  pub fits : is_some r ≡ leb (length t.labels) room
  pub agrees : IfSome r (λ s. Agrees t before s items groups labels)

-- Whatever the areas hold, they hold the next after a step, which gives `more` sources at most.
pub record Advances (more : ℕ) (step : Numbered → Numbered) (s : Numbering) (r : Option Numbering)
    (items groups labels items' groups' labels' : List ℕ) : Type 0 where
  pub holds : (t : Numbered) (before : List ℕ) → Agrees t before s items groups labels
      → Holds (step t) (room_of labels) before r items' groups' labels'
  pub few : IfSome r (λ q. q.sources ≤ s.sources + more)
  pub room : IfSome r (λ q. q.label_bytes ≤ room_of labels)
  pub long : length labels' ≡ length labels

-- the `len` bytes at place `at` are this label, and lie among the first `bytes`
pub record LabelStands (label : List ℕ) (at len bytes : ℕ) (labels : List ℕ) : Type 0 where
  pub inside : at + len ≤ bytes
  pub is : take len (drop at labels) ≡ label

-- Each of the first `m` item records that has a number has its label among the label bytes so far, where its pair
-- says: a later record that is alike gets a copy.
pub record Labelled (text : List ℕ) (mode : ℕ) (pool : List ℕ) (n m : ℕ) (s : Numbering) (items groups labels : List ℕ) : Type 0 where
  pub room : item_width * m ≤ length items
  pub stands : (j : ℕ) → j < m → 0 < item_field items j item_number
      → LabelStands (record_label text mode pool groups items n j (item_field items j item_number)) (item_field items j item_label) (item_field items j item_label_length)
      s.label_bytes labels

-- none of the first `m` item records, for which there is room, has a number
pub record Unnumbered (m : ℕ) (items : List ℕ) : Type 0 where
  pub room : item_width * m ≤ length items
  pub none : (j : ℕ) → j < m → item_field items j item_number ≡ 0
