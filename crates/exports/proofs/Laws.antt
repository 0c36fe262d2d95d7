-- The room of `answer`:
-- it is there where `has_room` says so, and the numbers of an answer fit it.
use Prim.Native.Nat.{ℕ, ◌<◌, ◌≤◌}
use mathlib.Core.Path.{◌≡◌, refl, sym, ◌∙◌}
use mathlib.Core.List.{List}
use mathlib.Core.Bool.{Bool, true}
use lib.ListN.{length}
use lib.Dec.{leb}
use borrow.Author.Tests.{leb-true}
use Rattle.std.specs.Prelude.{Result, Ok, Err}
use Rattle.base.specs.declared.refusal.Refusal.{Refusal}
use Rattle.locator.specs.declared.Locator.{Locator}
use Rattle.lookup.specs.declared.LookUp.{LookUp}
use Rattle.lookup.specs.Others.{locator_call, size_call}
use Rattle.lookup.specs.LookUps.{look_up_run}
use Rattle.lookup.specs.Values.{look_up_values, look_up_numbers, locator_values, locator_numbers, size_values, size_numbers}
use Rattle.source_text.specs.Call.{source_text_call}
use Rattle.source_text.specs.Values.{source_text_values, source_text_numbers}
use Rattle.annotation.specs.declared.answer.Annotation.{Annotation}
use Rattle.annotation.specs.Content.{Areas}
use Rattle.annotation.specs.Call.{annotate_run}
use Rattle.annotation.specs.Values.{annotation_values, annotation_numbers}
use Rattle.index.specs.declared.Bracket.{Bracket}
use Rattle.answers.specs.Words.{Words}
use Rattle.exports.proofs.Words.{size_words, locator_words, look_up_words, annotation_words}
use Rattle.exports.proofs.SourceWords.{source_words}

-- what `has_room` answers
pub room : (n : ℕ) (s : List ℕ) {b : Bool} → b ≡ leb n (length s) → b ≡ true → n ≤ length s
room n s r t = leb-true n (length s) (sym r ∙ t)

-- the numbers of an answer fit
pub size_fit : (text : List ℕ) (a : Result ℕ Refusal) → size_values a ≡ size_numbers (size_call text) → Words (size_values a)
size_fit text a v = rw v (size_words text)

pub locator_fit : (text : List ℕ) (a : Result Locator Refusal) → locator_values a ≡ locator_numbers (locator_call text) → Words (locator_values a)
locator_fit text a v = rw v (locator_words text)

same_count : (a : Result ℕ Refusal) → size_values a ≡ source_text_values a
unfolding size_values source_text_values
same_count (Ok n) = refl
same_count (Err e) = refl

pub source_fit : (pool : List ℕ) (entry : ℕ) (area : List ℕ) (a : Result ℕ Refusal) → source_text_values a ≡ source_text_numbers (source_text_call pool entry area)
    → Words (size_values a)
source_fit pool entry area a v = rw (same_count a, v) (source_words pool entry area)

pub look_up_fit : (text : List ℕ) (at note : ℕ) (index : List ℕ) (records : List Bracket) (items : List ℕ) → note < 256 → (r : LookUp)
    → look_up_values r ≡ look_up_numbers (look_up_run text at note index records items) → Words (look_up_values r)
look_up_fit text at note index records items h r v = rw v (look_up_words text at note index records items h)

pub annotate_fit : (text : List ℕ) (mode : ℕ) (pool : List ℕ) (note : ℕ) (index : List ℕ) (records : List Bracket) (areas : Areas) → note < 256 → (r : Annotation)
    → annotation_values r ≡ annotation_numbers (annotate_run text mode pool note index records areas) → Words (annotation_values r)
annotate_fit text mode pool note index records areas h r v = rw v (annotation_words text mode pool note index records areas h)
