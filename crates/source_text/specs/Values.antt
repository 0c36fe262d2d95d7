-- Document 01, Layouts: the numbers and values of the source text call:
-- the number (0 accepted), then the bytes written.
use Rattle.std.specs.Prelude.{ℕ, List, [], ◌∷◌, Result, Ok, Err}
use Rattle.base.specs.Refusals.{number_of, answered}
use Rattle.base.specs.declared.refusal.Refusal.{Refusal}
use Rattle.source_text.specs.Call.{SourceAnswer}

-- "the source text call returns the bytes written"
unfoldable pub source_text_values : Result ℕ Refusal → List ℕ
source_text_values (Ok bytes) = 0 ∷ bytes ∷ []
source_text_values (Err e) = number_of e ∷ 0 ∷ []

-- number and bytes of the source text call by its definition
unfoldable pub source_text_numbers : SourceAnswer → List ℕ
source_text_numbers a = a.number ∷ a.bytes ∷ []

-- the answer of the call by its definition: accepted where the number is 0
unfoldable pub source_text_answer : SourceAnswer → Result ℕ Refusal
source_text_answer a = answered a.number a.bytes
