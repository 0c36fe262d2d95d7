-- Document 01, Examples: the lines of the listing:
-- what each says, by the records of an answer.
use Rattle.std.specs.Prelude.{ℕ, zero, suc, ◌+◌, ◌*◌, List, [], ◌++◌, get_or, drop, eqb}
use Rattle.base.specs.Pick.{pick}
use Rattle.base.specs.Lists.{part}
use Rattle.base.specs.Ascii.{ascii}
use Rattle.decimal.specs.Decimal.{decimal}
use Rattle.annotation.specs.Call.{Annotated}
use Rattle.records.specs.Widths.{item_width, group_width, group_place, group_length, group_first, group_count, group_standing, item_key, item_key_length, item_code, item_number}

-- what a line says of its group, with a space after each number: "group offset, length, standing"
unfoldable pub group_part : List ℕ → List ℕ
group_part group =
    decimal (get_or group group_place 0) ++ ascii " " ++ decimal (get_or group group_length 0) ++ ascii " " ++ decimal (get_or group group_standing 0) ++ ascii " "

-- what it says of its item: "key, label code, number"
unfoldable pub item_part : List ℕ → List ℕ → List ℕ
item_part text item =
    part text (get_or item item_key 0) (get_or item item_key 0 + get_or item item_key_length 0) ++ ascii " " ++ decimal (get_or item item_code 0) ++ ascii " "
    ++ decimal (get_or item item_number 0) ++ ascii "\n"

-- the line of an item
unfoldable pub item_line : List ℕ → List ℕ → List ℕ → List ℕ
item_line text group item = group_part group ++ item_part text item

-- the lines of the `k` items from the front of the item records
unfoldable pub item_lines : ℕ → List ℕ → List ℕ → List ℕ → List ℕ
item_lines zero text group items = []
item_lines (suc k) text group items = item_line text group items ++ item_lines k text group (drop item_width items)

-- the lines of the group whose record is at the front
unfoldable pub lines_of : List ℕ → List ℕ → List ℕ → List ℕ
lines_of text groups items = item_lines (get_or groups group_count 0) text groups (drop (item_width * get_or groups group_first 0) items)

-- "then per item": the lines of the `g` groups from the front of the group records
unfoldable pub group_lines : ℕ → List ℕ → List ℕ → List ℕ → List ℕ
group_lines zero text groups items = []
group_lines (suc g) text groups items = lines_of text groups items ++ group_lines g text (drop group_width groups) items

-- "counts (sources = distinct numbered keys)"
unfoldable pub count_line : Annotated → List ℕ
count_line a =
    ascii "groups " ++ decimal a.groups ++ ascii " items " ++ decimal a.items ++ ascii " sources " ++ decimal a.sources
    ++ ascii "\n"

-- "it prints only `refused N`"
unfoldable pub refused_line : ℕ → List ℕ
refused_line number = ascii "refused " ++ decimal number ++ ascii "\n"

-- the lines of an answer, or only its refusal
unfoldable pub answer_lines : List ℕ → Annotated → List ℕ
answer_lines text a =
    pick (eqb a.number 0) (count_line a ++ group_lines a.groups text a.areas.groups a.areas.items) (refused_line a.number)
