-- Follows the code; nothing to believe: an answer by what it returned
-- and by its records.
use Rattle.std.specs.Prelude.{ℕ, List, [], Result, Ok, Err}
use Rattle.annotation.specs.Call.{Annotated}
use Rattle.annotation.specs.Content.{areas}
use Rattle.annotation.specs.declared.answer.Counts.{Counts}
use Rattle.base.specs.declared.refusal.Refusal.{Refusal}
use Rattle.base.specs.Refusals.{number_of}

-- an answer by what it returned and by the records in the areas; the listing asks for no more of it
abbrev pub answer_by : Result Counts Refusal → List ℕ → List ℕ → Annotated
answer_by (Ok c) items groups = record {
  number = 0;
  groups = c.groups;
  items = c.items;
  sources = c.sources;
  label_bytes = 0;
  areas = areas items groups [] [];
}
answer_by (Err e) items groups = record {
  number = number_of e;
  groups = 0;
  items = 0;
  sources = 0;
  label_bytes = 0;
  areas = areas items groups [] [];
}
