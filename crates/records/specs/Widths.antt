-- Document 01, Layouts: how many numbers the records have, and what stands where in them. The definitions of records, the code and
-- the proofs cite these names.
use Rattle.std.specs.Prelude.{ℕ}

-- "Item record, 16 u16"
abbrev pub item_width : ℕ
item_width = 16

-- "pairs for prefix, key (without `@`), locator, value, suffix": each an offset and a length
abbrev pub item_prefix : ℕ
item_prefix = 0

abbrev pub item_prefix_length : ℕ
item_prefix_length = 1

abbrev pub item_key : ℕ
item_key = 2

abbrev pub item_key_length : ℕ
item_key_length = 3

abbrev pub item_locator : ℕ
item_locator = 4

abbrev pub item_locator_length : ℕ
item_locator_length = 5

abbrev pub item_value : ℕ
item_value = 6

abbrev pub item_suffix : ℕ
item_suffix = 8

-- "label code; marks ..; number; use; label pair into the label bytes"
abbrev pub item_code : ℕ
item_code = 10

abbrev pub item_marks : ℕ
item_marks = 11

abbrev pub item_number : ℕ
item_number = 12

abbrev pub item_use : ℕ
item_use = 13

abbrev pub item_label : ℕ
item_label = 14

abbrev pub item_label_length : ℕ
item_label_length = 15

-- "Group record, 5 u16"
abbrev pub group_width : ℕ
group_width = 5

-- "pair, first item (items, groups and entries count from 0), item count, standing"
abbrev pub group_place : ℕ
group_place = 0

abbrev pub group_length : ℕ
group_length = 1

abbrev pub group_first : ℕ
group_first = 2

abbrev pub group_count : ℕ
group_count = 3

abbrev pub group_standing : ℕ
group_standing = 4
