-- THEOREM `PromisedHistories`: calls that meet their promises answer as `answers_of` says,
-- and so by `Histories` plainly.
use Prim.Native.Nat.{ℕ}
use mathlib.Core.Path.{◌≡◌, refl, ◌∙◌, ap}
use mathlib.Core.List.{List, [], ◌∷◌, map, map-map}
use lib.ListN.{length, take}
use Rattle.std.specs.Prelude.{Result, Ok, Err}
use Rattle.base.specs.declared.refusal.Refusal.{Refusal}
use Rattle.lookup.specs.declared.LookUp.{LookUp}
use Rattle.resolve.specs.declared.Group.{Group}
use Rattle.lookup.specs.LookUps.{LookedUp, LookUpRan, look_up_run}
use Rattle.lookup.specs.Values.{group_values, look_up_values, look_up_numbers}
use Rattle.annotation.specs.declared.answer.Annotation.{Annotation}
use Rattle.annotation.specs.declared.answer.Counts.{Counts}
use Rattle.annotation.specs.Content.{Areas}
use Rattle.annotation.specs.Call.{Annotated, AnnotateRan, annotate_run}
use Rattle.annotation.specs.Values.{count_values, annotation_values, annotation_numbers}
use Rattle.histories.specs.Histories.{OfLookUp, OfAnnotation, State, state, run_call, look_up_left, annotate_left, put_back, answers_of, plain}
use Rattle.histories.specs.Promises.{RanCall, LookedUpOnce, AnnotatedOnce, call_of, Met, group_shown, counts_shown, look_up_shows, annotation_shows, shown, state_after, AllMet, PromisedHistories}
use Rattle.histories.proofs.FromCalls.{both}
use Rattle.histories.proofs.Demand3.{demand_3}

-- what a look-up showed with its items, and its note, are those of the look-up as run
looked : (a : LookedUp) {number close count : ℕ} {items : List ℕ} → number ≡ a.number → close ≡ a.close → count ≡ a.count
    → items ≡ a.items → record { number = number; close = close; count = count; items = items } ≡ a
looked a n c k i = rw (n, c, k, i) refl

look_up_shown : (ran : LookUpRan) (r : LookUp) (items : List ℕ) → look_up_values r ≡ look_up_numbers ran → items ≡ ran.answer.items
    → (look_up_shows r items ≡ ran.answer) × (r.note ≡ ran.note)
unfolding look_up_values look_up_numbers
look_up_shown ran r items = go r.group
  where
    go : (g : Result Group Refusal) → group_values g r.note ≡ look_up_numbers ran → items ≡ ran.answer.items
        → (group_shown g items ≡ ran.answer) × (r.note ≡ ran.note)
    go (Ok g) e i = (looked ran.answer (cc) (cc) (cc) i, cc)
    go (Err x) e i = (looked ran.answer (cc) (cc) (cc) i, cc)

-- the same of an annotation
annotated : (a : Annotated) {number groups items sources label_bytes : ℕ} {areas : Areas} → number ≡ a.number → groups ≡ a.groups
    → items ≡ a.items → sources ≡ a.sources → label_bytes ≡ a.label_bytes → areas ≡ a.areas
    → record { number = number; groups = groups; items = items; sources = sources; label_bytes = label_bytes; areas = areas } ≡ a
annotated a n g i s b h = rw (n, g, i, s, b, h) refl

four : (y : Areas) {items groups references labels : List ℕ} → items ≡ y.items → groups ≡ y.groups → references ≡ y.references
    → labels ≡ y.labels → record { items = items; groups = groups; references = references; labels = labels } ≡ y
four y i g r l = rw (i, g, r, l) refl

annotation_shown : (ran : AnnotateRan) (r : Annotation) (areas : Areas) → annotation_values r ≡ annotation_numbers ran → areas ≡ ran.answer.areas
    → (annotation_shows r areas ≡ ran.answer) × (r.note ≡ ran.note)
unfolding annotation_values annotation_numbers
annotation_shown ran r areas = go r.counts
  where
    go : (c : Result Counts Refusal) → count_values c r.note ≡ annotation_numbers ran → areas ≡ ran.answer.areas
        → (counts_shown c areas ≡ ran.answer) × (r.note ≡ ran.note)
    go (Ok c) e h = (annotated ran.answer (cc) (cc) (cc) (cc) (cc) h, cc)
    go (Err x) e h = (annotated ran.answer (cc) (cc) (cc) (cc) (cc) h, cc)

-- a call that met its promise showed what `run_call` answers, and left the state that it leaves
same_state : (k : ℕ) (area x y : List ℕ) (m n : ℕ) → x ≡ y → m ≡ n → state (put_back k x area) m ≡ state (put_back k y area) n
same_state k area x y m n p q = cc

met_shows : (text : List ℕ) (st : State) (d : RanCall) → Met text st d
    → (shown d ≡ (run_call text st (call_of d)).answer) × (state_after st d ≡ (run_call text st (call_of d)).after)
unfolding run_call look_up_left annotate_left
met_shows text st (LookedUpOnce k at records items r index' records' items') h =
    let e = look_up_shown (look_up_run text at st.note (take k st.index) records items) r items' h.0 h.3 in
    (ap OfLookUp e.0, same_state k st.index _ _ _ _ h.1 e.1)
met_shows text st (AnnotatedOnce k mode pool records areas r index' records' areas') h =
    let ran : AnnotateRan = annotate_run text mode pool st.note (take k st.index) records areas in
    let e = annotation_shown ran r areas' h.0 (four ran.answer.areas h.3 h.4 h.5 h.6) in
    (ap OfAnnotation e.0, same_state k st.index _ _ _ _ h.1 e.1)

all_shown : (text : List ℕ) (done : List RanCall) (st : State) → AllMet text st done → map shown done ≡ answers_of text st (map call_of done)
unfolding answers_of
all_shown text [] st h = refl
all_shown text (d ∷ ds) st h =
    let e = met_shows text st d h.0 in
    both e.0 (all_shown text ds (state_after st d) h.1 ∙ ap (λ (s : State). answers_of text s (map call_of ds)) e.1)

pub promised_histories : PromisedHistories
promised_histories text index note other done h =
    all_shown text done (state index note) h ∙ demand_3 text index note other (map call_of done)
    ∙ map-map (plain text (length index)) call_of done
