-- Follows the code; nothing to believe: an annotation in two halves around the build,
-- and the refusal by 10.
use Rattle.std.specs.Prelude.{ℕ, ◌≡◌, List, Bool, false, length, Result, Ok, Err}
use Rattle.annotation.specs.declared.answer.Annotation.{Annotation}
use Rattle.annotation.specs.Call.{AnnotateRan, zeros, annotate_run}
use Rattle.annotation.specs.Values.{annotation_numbers, annotation_answer, annotation_values}
use Rattle.annotation.specs.declared.answer.Counts.{Counts}
use Rattle.base.specs.Modes.{mode_number}
use Rattle.base.specs.Refusals.{number_of}
use Rattle.base.specs.declared.refusal.Refusal.{Refusal}
use Rattle.base.specs.declared.refusal.Refusal.TheVariants.{NoRoom}
use Rattle.sweep.specs.Stops.{start_state, SweptTo}
use Rattle.annotation.specs.declared.preparation.Begun.{Begun}
use Rattle.annotation.specs.Refusal.{annotate_refusal}
use Rattle.index.specs.declared.Bracket.{Bracket}
use Rattle.index.specs.Built.{index_after}
use Rattle.annotation.specs.Content.{areas}

-- an answer, and the four areas with it, are those of a call as run
pub record Done (ran : AnnotateRan) (r : Annotation) (items groups references labels : List ℕ) : Type 0 where
  pub answer : r ≡ annotation_answer ran
  pub values : annotation_values r ≡ annotation_numbers ran
  pub item_area : items ≡ ran.answer.areas.items
  pub group_area : groups ≡ ran.answer.areas.groups
  pub reference_area : references ≡ ran.answer.areas.references
  pub label_area : labels ≡ ran.answer.areas.labels

-- 10: all four areas are filled with zeros
pub record Zeroed (items groups references labels : List ℕ) (r : Result Counts Refusal)
    (items' groups' references' labels' : List ℕ) : Type 0 where
  pub refused : r ≡ Err NoRoom
  pub item_area : items' ≡ zeros items
  pub group_area : groups' ≡ zeros groups
  pub reference_area : references' ≡ zeros references
  pub label_area : labels' ≡ zeros labels

-- In what follows a call is given this index, `m` bracket records and these two areas; `items'` and `groups'` are what they are at the build.

-- refused before the sweep: both areas stay as they were
pub record RefusedBefore (text : List ℕ) (mode : ℕ) (pool index : List ℕ) (m : ℕ) (items groups : List ℕ) (refusal : Refusal)
    (items' groups' : List ℕ) : Type 0 where
  pub refuses : number_of refusal ≡ annotate_refusal text mode pool (length index) m
  pub item_area : items' ≡ items
  pub group_area : groups' ≡ groups

-- not refused: the mode, the pool, the sweep so far, and what it left in the two areas
pub record SweptBefore (text : List ℕ) (mode : ℕ) (pool : List ℕ) (note : ℕ) (index : List ℕ) (m : ℕ) (items groups : List ℕ) (begun : Begun)
    (items' groups' : List ℕ) : Type 0 where
  pub passes : annotate_refusal text mode pool (length index) m ≡ 0
  pub mode_is : mode_number begun.mode ≡ mode
  pub pool_is : begun.pool.bytes.now ≡ pool
  pub sweeps : SweptTo text note index start_state items groups begun.swept items' groups'

-- before the build: the refusal, or the sweep so far
abbrev pub PreparedBy : List ℕ → ℕ → List ℕ → ℕ → List ℕ → ℕ → List ℕ → List ℕ → Result Begun Refusal → List ℕ → List ℕ → Type 0
PreparedBy text mode pool note index m items groups (Ok begun) items' groups' =
    SweptBefore text mode pool note index m items groups begun items' groups'
PreparedBy text mode pool note index m items groups (Err refusal) items' groups' =
    RefusedBefore text mode pool index m items groups refusal items' groups'

-- the prepared annotation asks for a build
unfoldable pub prepared_wants : Result Begun Refusal → Bool
prepared_wants (Ok begun) = begun.swept.wants
prepared_wants (Err refusal) = false

-- what the second half asks for of the first: it was given some mode, pool, index, areas and count of bracket records, and the index was built where
-- it asked for that
pub record CanFinish (text : List ℕ) (note : ℕ) (p : Result Begun Refusal) (index items groups : List ℕ) : Type 0 where
  pub mode : ℕ
  pub pool : List ℕ
  pub index₀ : List ℕ
  pub lent : ℕ
  pub items₀ : List ℕ
  pub groups₀ : List ℕ
  pub prepared : PreparedBy text mode pool note index₀ lent items₀ groups₀ p items groups
  pub built : index ≡ index_after (prepared_wants p) text index₀

-- After the build: whatever the call was given, the answer is that of the call as run, if the first half prepared it so and the index was
-- built where that asked for it.
pub record Finished (text : List ℕ) (note : ℕ) (p : Result Begun Refusal) (index items groups references labels : List ℕ)
    (r : Annotation) (items' groups' references' labels' : List ℕ) : Type 0 where
  pub gives : (mode : ℕ) (pool index₀ : List ℕ) (records : List Bracket) (m : ℕ) (items₀ groups₀ : List ℕ)
      → PreparedBy text mode pool note index₀ m items₀ groups₀ p items groups
      → length records ≡ m
      → index ≡ index_after (prepared_wants p) text index₀
      → Done (annotate_run text mode pool note index₀ records (areas items₀ groups₀ references labels)) r items' groups' references' labels'
