-- Follows the code; nothing to believe: item and group records as they lie in the lent areas. Any numbers may stand there:
-- what is past the end of an area counts as 0.
use Rattle.std.specs.Prelude.{ℕ, ◌+◌, ◌-◌, List, Bool, not, ◌&&◌, length, eqb, ltb}
use Rattle.base.specs.Pick.{pick}
use Rattle.base.specs.Lists.{part}
use Rattle.records.specs.Widths.{item_key, item_key_length, item_marks, item_prefix_length, item_locator_length, group_place, group_length}
use Rattle.records.specs.Fields.{item_field, group_field}

-- the bytes of the key of item record `k`
unfoldable pub key_in : List ℕ → List ℕ → ℕ → List ℕ
key_in text items k = part text (item_field items k item_key) (item_field items k item_key + item_field items k item_key_length)

-- item record `k` is marked as suppressed
unfoldable pub suppressed_in : List ℕ → ℕ → Bool
suppressed_in items k = eqb (item_field items k item_marks) 1

-- item record `k` has no prefix and no locator, and is not suppressed
unfoldable pub bare_in : List ℕ → ℕ → Bool
bare_in items k = eqb (item_field items k item_prefix_length) 0 && eqb (item_field items k item_locator_length) 0 && not (suppressed_in items k)

-- the place of the close of group record `g`
unfoldable pub close_of_record : List ℕ → ℕ → ℕ
close_of_record groups g = group_field groups g group_place + group_field groups g group_length - 1

-- where the group after number `g` begins, `n` being all; the text's end where there is none
unfoldable pub next_in : List ℕ → List ℕ → ℕ → ℕ → ℕ
next_in text groups n g = pick (ltb (g + 1) n) (group_field groups (g + 1) group_place) (length text)
