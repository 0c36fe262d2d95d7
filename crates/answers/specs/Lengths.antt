-- Document 01, Layouts, from C: how many numbers the answer of each call has,
-- its number first.
use Rattle.std.specs.Prelude.{ℕ}

-- the number, "the place of the close, the item count and the note"
abbrev pub look_up_answer_length : ℕ
look_up_answer_length = 4

-- the number, "the counts of groups, items, sources and label bytes, and the note"
abbrev pub annotation_answer_length : ℕ
annotation_answer_length = 6

-- the number, and the item records that suffice
abbrev pub size_answer_length : ℕ
size_answer_length = 2

-- the number, "label code, value pair and suffix pair"
abbrev pub locator_answer_length : ℕ
locator_answer_length = 6

-- the number, "the bytes written"
abbrev pub source_text_answer_length : ℕ
source_text_answer_length = 2
