-- Document 01, Agreement: the promises of look-up and annotation, and demand 3 of whatever meets them,
-- so that nothing stands between `Histories` and the code.
use Rattle.std.specs.Prelude.{ℕ, ◌≡◌, List, [], ◌∷◌, map, length, take, Result, Ok, Err}
use Rattle.base.specs.Refusals.{number_of}
use Rattle.base.specs.declared.refusal.Refusal.{Refusal}
use Rattle.index.specs.declared.Bracket.{Bracket}
use Rattle.lookup.specs.declared.LookUp.{LookUp}
use Rattle.resolve.specs.declared.Group.{Group}
use Rattle.lookup.specs.LookUps.{LookedUp, look_up_run}
use Rattle.lookup.specs.Values.{look_up_values, look_up_numbers, look_up_answer}
use Rattle.annotation.specs.declared.answer.Annotation.{Annotation}
use Rattle.annotation.specs.declared.answer.Counts.{Counts}
use Rattle.annotation.specs.Content.{Areas}
use Rattle.annotation.specs.Call.{Annotated, annotate_refused, annotate_run}
use Rattle.annotation.specs.Values.{annotation_values, annotation_numbers, annotation_answer}
use Rattle.histories.specs.Histories.{Call, LookUpCall, AnnotateCall, Answer, OfLookUp, OfAnnotation, State, state, put_back, plain}

-- what calls::look_up promises of what it returns and of the areas that it leaves
abbrev pub LookUpPromise : List ℕ → ℕ → ℕ → List ℕ → List Bracket → List ℕ → LookUp → List ℕ → List Bracket → List ℕ → Type 0
LookUpPromise text at note index records items r index' records' items' =
    (look_up_values r ≡ look_up_numbers (look_up_run text at note index records items))
    × (index' ≡ (look_up_run text at note index records items).index)
    × (records' ≡ (look_up_run text at note index records items).records)
    × (items' ≡ (look_up_run text at note index records items).answer.items)
    × (r ≡ look_up_answer (look_up_run text at note index records items))

-- what calls::annotate promises
abbrev pub AnnotatePromise : List ℕ → ℕ → List ℕ → ℕ → List ℕ → List Bracket → Areas → Annotation → List ℕ → List Bracket → Areas → Type 0
AnnotatePromise text mode pool note index records areas r index' records' areas' =
    (annotation_values r ≡ annotation_numbers (annotate_run text mode pool note index records areas))
    × (index' ≡ (annotate_run text mode pool note index records areas).index)
    × (records' ≡ (annotate_run text mode pool note index records areas).records)
    × (areas'.items ≡ (annotate_run text mode pool note index records areas).answer.areas.items)
    × (areas'.groups ≡ (annotate_run text mode pool note index records areas).answer.areas.groups)
    × (areas'.references ≡ (annotate_run text mode pool note index records areas).answer.areas.references)
    × (areas'.labels ≡ (annotate_run text mode pool note index records areas).answer.areas.labels)
    × (r ≡ annotation_answer (annotate_run text mode pool note index records areas))

-- a call that was run: its arguments as in `Call`, what it returned, and the index and bracket records lent and the answer areas after it
pub data RanCall : Type 0 where
  LookedUpOnce : ℕ → ℕ → List Bracket → List ℕ → LookUp → List ℕ → List Bracket → List ℕ → RanCall
  AnnotatedOnce : ℕ → ℕ → List ℕ → List Bracket → Areas → Annotation → List ℕ → List Bracket → Areas → RanCall

-- the call that was run
abbrev pub call_of : RanCall → Call
call_of (LookedUpOnce k at records items r index' records' items') = LookUpCall k at records items
call_of (AnnotatedOnce k mode pool records areas r index' records' areas') = AnnotateCall k mode pool records areas

-- a call that ran met its promise, the index area and the note being those of a state
abbrev pub Met : List ℕ → State → RanCall → Type 0
Met text st (LookedUpOnce k at records items r index' records' items') =
    LookUpPromise text at st.note (take k st.index) records items r index' records' items'
Met text st (AnnotatedOnce k mode pool records areas r index' records' areas') =
    AnnotatePromise text mode pool st.note (take k st.index) records areas r index' records' areas'

-- what is shown of a group that was found, or of a refusal
abbrev pub group_shown : Result Group Refusal → List ℕ → LookedUp
group_shown (Ok g) items = record { number = 0; close = g.close; count = g.count; items = items }
group_shown (Err e) items = record { number = number_of e; close = 0; count = 0; items = items }

-- what it returned except the note, and the final bytes of its answer areas
abbrev pub look_up_shows : LookUp → List ℕ → LookedUp
look_up_shows r items = group_shown r.group items

-- what is shown of counts, or of a refusal
abbrev pub counts_shown : Result Counts Refusal → Areas → Annotated
counts_shown (Ok c) areas =
    record { number = 0; groups = c.groups; items = c.items; sources = c.sources; label_bytes = c.label_bytes; areas = areas }
counts_shown (Err e) areas = annotate_refused (number_of e) areas

-- what an annotation's answer and areas show, the note left off
abbrev pub annotation_shows : Annotation → Areas → Annotated
annotation_shows r areas = counts_shown r.counts areas

-- what either showed
abbrev pub shown : RanCall → Answer
shown (LookedUpOnce k at records items r index' records' items') = OfLookUp (look_up_shows r items')
shown (AnnotatedOnce k mode pool records areas r index' records' areas') = OfAnnotation (annotation_shows r areas')

-- the index area and the note for the next call
abbrev pub state_after : State → RanCall → State
state_after st (LookedUpOnce k at records items r index' records' items') = state (put_back k index' st.index) r.note
state_after st (AnnotatedOnce k mode pool records areas r index' records' areas') = state (put_back k index' st.index) r.note

-- all calls of a list did, each with what the call before left
abbrev pub AllMet : List ℕ → State → List RanCall → Type 0
AllMet text st [] = Unit {0}
AllMet text st (d ∷ ds) = Met text st d × AllMet text (state_after st d) ds

-- THEOREM `PromisedHistories`, proved in proofs/Promised. "In every such list, what each call returns except the note, and the final bytes
-- of its answer areas, are those of its plain answer."
abbrev pub PromisedHistories : Type 0
PromisedHistories =
    (text index : List ℕ) (note : ℕ) → (note ≡ 1 → ⊥) → (done : List RanCall) → AllMet text (state index note) done
    → map shown done ≡ map (λ (d : RanCall). plain text (length index) (call_of d)) done
