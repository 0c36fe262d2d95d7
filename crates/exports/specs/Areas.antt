-- Document 01, Layouts, from C: the areas that an exported call is lent, after it. `answer` gets the number (0 accepted) and the values,
-- in the order that the paper gives them; the rest of it stays as it was.
use Rattle.std.specs.Prelude.{ℕ, List, Bool, length, leb}
use Rattle.base.specs.Pick.{pick}
use Rattle.base.specs.Lists.{written}
use Rattle.index.specs.declared.Bracket.{Bracket}
use Rattle.lookup.specs.LookUps.{LookUpRan, look_up_run}
use Rattle.lookup.specs.Others.{locator_call, size_call}
use Rattle.lookup.specs.Values.{look_up_numbers, locator_numbers, size_numbers}
use Rattle.source_text.specs.Call.{SourceAnswer, source_text_call}
use Rattle.source_text.specs.Values.{source_text_numbers}
use Rattle.annotation.specs.Content.{Areas}
use Rattle.annotation.specs.Call.{AnnotateRan, annotate_run}
use Rattle.annotation.specs.Values.{annotation_numbers}
use Rattle.answers.specs.Lengths.{look_up_answer_length, annotation_answer_length, size_answer_length, locator_answer_length, source_text_answer_length}

-- `answer` has room for `n` numbers
abbrev pub has_room : ℕ → List ℕ → Bool
has_room n answer = leb n (length answer)

-- The areas that a look-up is lent. Its answer is the number, then "the place of the close, the item count and the note".
pub record LookUpAreas : Type 0 where
  pub index : List ℕ
  pub records : List Bracket
  pub items : List ℕ
  pub answer : List ℕ

-- the areas of a look-up, by name
abbrev pub look_up_areas : List ℕ → List Bracket → List ℕ → List ℕ → LookUpAreas
look_up_areas index records items answer = record { index = index; records = records; items = items; answer = answer }

-- the areas after a look-up that was run
unfoldable pub look_up_done : LookUpRan → List ℕ → LookUpAreas
look_up_done ran answer = look_up_areas ran.index ran.records ran.answer.items (written (look_up_numbers ran) answer)

-- run where `answer` has room for its four numbers, else untouched
unfoldable pub after_look_up : List ℕ → ℕ → ℕ → LookUpAreas → LookUpAreas
after_look_up text at note lent =
    pick (has_room look_up_answer_length lent.answer) (look_up_done (look_up_run text at note lent.index lent.records lent.items) lent.answer) lent

-- The areas that an annotation is lent. Its answer is the number, then "the counts of groups, items, sources and label bytes, and the note".
pub record AnnotateAreas : Type 0 where
  pub index : List ℕ
  pub records : List Bracket
  pub areas : Areas
  pub answer : List ℕ

-- the areas of an annotation, by name
abbrev pub annotate_areas : List ℕ → List Bracket → Areas → List ℕ → AnnotateAreas
annotate_areas index records areas answer = record { index = index; records = records; areas = areas; answer = answer }

-- the areas after an annotation that was run
unfoldable pub annotate_done : AnnotateRan → List ℕ → AnnotateAreas
annotate_done ran answer = annotate_areas ran.index ran.records ran.answer.areas (written (annotation_numbers ran) answer)

-- run where `answer` has room for its six numbers, else untouched
unfoldable pub after_annotate : List ℕ → ℕ → List ℕ → ℕ → AnnotateAreas → AnnotateAreas
after_annotate text mode pool note lent =
    pick (has_room annotation_answer_length lent.answer)
    (annotate_done (annotate_run text mode pool note lent.index lent.records lent.areas) lent.answer)
    lent

-- the size call: number and records
unfoldable pub after_size : List ℕ → List ℕ → List ℕ
after_size text answer = pick (has_room size_answer_length answer) (written (size_numbers (size_call text)) answer) answer

-- the locator call: number, "label code, value pair and suffix pair"
unfoldable pub after_locator : List ℕ → List ℕ → List ℕ
after_locator text answer = pick (has_room locator_answer_length answer) (written (locator_numbers (locator_call text)) answer) answer

-- The areas that a source text call is lent. Its answer is the number and "the bytes written".
pub record SourceAreas : Type 0 where
  pub area : List ℕ
  pub answer : List ℕ

-- the areas of the source text call, by name
abbrev pub source_areas : List ℕ → List ℕ → SourceAreas
source_areas area answer = record { area = area; answer = answer }

-- the areas after a source text call that was run
unfoldable pub source_done : SourceAnswer → List ℕ → SourceAreas
source_done ran answer = source_areas ran.area (written (source_text_numbers ran) answer)

-- run where `answer` has room for its two numbers, else untouched
unfoldable pub after_source_text : List ℕ → ℕ → SourceAreas → SourceAreas
after_source_text pool entry lent = pick (has_room source_text_answer_length lent.answer) (source_done (source_text_call pool entry lent.area) lent.answer) lent
