-- Follows the code; nothing to believe: groups recorded:
-- the states of a sweep, and what the two areas are then.
use Rattle.std.specs.Prelude.{ℕ, ◌+◌, ◌*◌, ◌≤◌, ◌≡◌, List, [], ◌∷◌, Bool, true, false, ◌&&◌, length, leb}
use Rattle.item.specs.Pieces.{items_of}
use Rattle.item.specs.Group.{Group, group_of}
use Rattle.records.specs.Widths.{item_width}
use Rattle.standing.specs.GroupRecords.{group_records, item_count, item_records}
use Rattle.standing.specs.Swept.{swept_from, inside_after, end_after}
use Rattle.records.specs.Widths.{group_width}
use Rattle.standing.specs.Stands.{GroupFrom}
use Rattle.sweep.specs.declared.group_records.SweepState.{SweepState}
use Rattle.sweep.specs.Areas.{written_at}

-- areas of `items` and `groups` numbers have room for `n` item and `g` group records
abbrev pub records_fit : ℕ → ℕ → ℕ → ℕ → Bool
records_fit n g items groups = leb (item_width * n) items && leb (group_width * g) groups

-- What holds of a state that a sweep is in, the areas being `items` and `groups` numbers long: it stands in the text, past 3 bytes for each
-- item and 2 for each group; and while all records fitted, they do.
pub record Counted (text : List ℕ) (s : SweepState) (items groups : ℕ) : Type 0 where
  pub at_by : s.at ≤ length text
  pub items_by : 3 * s.items ≤ s.at
  pub groups_by : 2 * s.groups ≤ s.at
  pub room : s.fits ≡ true → records_fit s.items s.groups items groups ≡ true

-- From the state `s` the groups `gs` were recorded, which gives the state `r`; the areas were `items` and `groups` and are `items'` and
-- `groups'` then. Where a record did not fit nothing is said of what the areas hold: the caller fills them with zeros.
pub record Recorded (text : List ℕ) (gs : List Group) (s : SweepState) (items groups : List ℕ) (r : SweepState) (items' groups' : List ℕ)
    : Type 0 where
  pub group_count : r.groups ≡ s.groups + length gs
  pub items_counted : r.items ≡ s.items + item_count gs
  pub line : r.inside ≡ inside_after text s.inside s.from gs
  pub end : r.from ≡ end_after s.from gs
  pub fitted : r.fits ≡ (s.fits && records_fit r.items r.groups (length items) (length groups))
  pub item_area : length items' ≡ length items
  pub group_area : length groups' ≡ length groups
  pub items_recorded : r.fits ≡ true → items' ≡ written_at (item_width * s.items) (item_records gs) items
  pub groups_recorded : r.fits ≡ true
      → groups' ≡ written_at (group_width * s.groups) (group_records s.items (swept_from text s.inside s.from gs)) groups

-- the item records of the group from `at` to `close` can be written from item record `n` on
pub record ItemsRoom (text : List ℕ) (at close n : ℕ) (items : List ℕ) : Type 0 where
  pub stands : GroupFrom text at close (length (items_of text at close))
  pub short : length text ≤ 65535
  pub room : item_width * (n + length (items_of text at close)) ≤ length items

-- the group from `at` to `close` can be recorded from the state `s`, the areas being `items` and `groups` numbers long
pub record Recordable (text : List ℕ) (at close count : ℕ) (s : SweepState) (items groups : ℕ) : Type 0 where
  pub stands : GroupFrom text at close count
  pub short : length text ≤ 65535
  pub later : s.at ≤ at
  pub counted : Counted text s items groups

-- the state after that group
abbrev pub after_group : SweepState → ℕ → ℕ → Bool → Bool → SweepState
after_group s close count inside fits = record {
  at = close + 1;
  groups = s.groups + 1;
  items = s.items + count;
  inside = inside;
  from = close + 1;
  fits = fits;
  wants = false;
}

-- the group from `at` to `close` was recorded
pub record RecordedOne (text : List ℕ) (at close : ℕ) (s : SweepState) (items groups : List ℕ) (r : SweepState) (items' groups' : List ℕ)
    : Type 0 where
  pub next : r.at ≡ close + 1
  pub no_build : r.wants ≡ false
  pub recorded : Recorded text (group_of text at close ∷ []) s items groups r items' groups'
  pub counted : Counted text r (length items) (length groups)
