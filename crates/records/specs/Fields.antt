-- Document 01, Layouts: item and group records as they lie in the lent areas.
-- What is past an area's end counts as 0.
use Rattle.std.specs.Prelude.{ℕ, ◌+◌, ◌*◌, List, get_or}
use Rattle.records.specs.Widths.{item_width, group_width}

-- the number at place `c` of record `k`, where each record has `width` numbers
unfoldable pub field_at : ℕ → List ℕ → ℕ → ℕ → ℕ
field_at width area k c = get_or area (width * k + c) 0

-- the number at place `c` of item record `k`
abbrev pub item_field : List ℕ → ℕ → ℕ → ℕ
item_field items k c = field_at item_width items k c

-- the number at place `c` of group record `g`
abbrev pub group_field : List ℕ → ℕ → ℕ → ℕ
group_field groups g c = field_at group_width groups g c
