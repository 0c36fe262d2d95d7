-- The second half of an annotation,
-- in the form of the code's goals.
use Prim.Native.Nat.{ℕ, ◌≤◌}
use native.Mathlib.Omega.{arith}
use mathlib.Core.Path.{◌≡◌}
use mathlib.Core.List.{List, []}
use mathlib.Core.Bool.{true, false}
use lib.ListN.{length}
use Rattle.resolve.specs.Resolve.{note_after, index_after}
use Rattle.sweep.specs.declared.group_records.SweepState.{SweepState}
use Rattle.sweep.specs.Recording.{Counted}
use Rattle.sweep.specs.Stops.{SweptTo}
use Rattle.numbering.specs.Numbers.{number_all}
use Rattle.numbering.specs.Progress.{Unnumbered}
use Rattle.std.specs.Prelude.{Result, Ok, Err}
use Rattle.base.specs.Modes.{mode_number}
use Rattle.base.specs.declared.refusal.Refusal.{Refusal}
use Rattle.annotation.specs.declared.answer.Counts.{Counts}
use Rattle.annotation.specs.Halves.{Zeroed, SweptBefore, PreparedBy, prepared_wants, CanFinish, Finished}
use Rattle.annotation.specs.declared.preparation.Begun.{Begun}
use Rattle.annotation.proofs.RefusalLaws.{Unrefused, unrefused}
use Rattle.annotation.specs.Ordering.{Orderable, Ordered}
use Rattle.annotation.proofs.Answers.{items_unnumbered, sources_short, sources_known, done_refused, done_few, done_room}

-- what was prepared is a sweep
module _ {p : Result Begun Refusal} {begun : Begun} (y : p ≡ Ok begun) where
  swept_so : (text : List ℕ) (mode : ℕ) (pool : List ℕ) (note : ℕ) (index₀ : List ℕ) (m : ℕ) (items₀ groups₀ items groups : List ℕ)
      → PreparedBy text mode pool note index₀ m items₀ groups₀ p items groups
      → SweptBefore text mode pool note index₀ m items₀ groups₀ begun items groups
  swept_so text mode pool note index₀ m items₀ groups₀ items groups b = rw y at b

  built_so : (text index index₀ : List ℕ) → index ≡ index_after (prepared_wants p) text index₀ → index ≡ index_after begun.swept.wants text index₀
  unfolding prepared_wants
  built_so text index index₀ i = rw y at i

-- what the first half left
module _ {text : List ℕ} {note : ℕ} {p : Result Begun Refusal} {index items groups : List ℕ}
    (c : CanFinish text note p index items groups) {begun : Begun} (y : p ≡ Ok begun) where
  swept : SweptBefore text c.mode c.pool note c.index₀ c.lent c.items₀ c.groups₀ begun items groups
  swept = swept_so y text c.mode c.pool note c.index₀ c.lent c.items₀ c.groups₀ items groups c.prepared

  goes_on : Unrefused text c.mode c.pool (length c.index₀) c.lent
  goes_on = unrefused text c.mode c.pool (length c.index₀) c.lent swept.passes

  built_then : index ≡ index_after begun.swept.wants text c.index₀
  built_then = built_so y text index c.index₀ c.built

  pub goes_short : length text ≤ 65535
  goes_short = goes_on.enough.short

  pub goes_counted : Counted text begun.swept (length items) (length groups)
  goes_counted = rw (swept.sweeps.records.item_area, swept.sweeps.records.group_area) swept.sweeps.counted

  module _ {k : ℕ} {s : SweepState} {items' groups' : List ℕ} (t : SweptTo text k index begun.swept items groups s items' groups') where
    pub groups_short : s.groups ≤ 32768
    groups_short =
        let a = goes_short in
        let x = t.counted.groups_by in
        let y = t.counted.at_by in
        omega arith

    pub items_short : s.items ≤ 65535
    items_short =
        let a = goes_short in
        let x = t.counted.items_by in
        let y = t.counted.at_by in
        omega arith

    pub numbers_none : k ≡ note_after begun.swept.wants note → s.fits ≡ true → Unnumbered s.items items'
    numbers_none q f = items_unnumbered swept [] q built_then t f

    pub numbers_known : k ≡ note_after begun.swept.wants note → s.fits ≡ true
        → Orderable text begun.pool.bytes.now s.groups s.items (number_all text (mode_number begun.mode) begun.pool.bytes.now s.groups items' groups')
    numbers_known q f = rw (swept.mode_is, swept.pool_is) (record { few = sources_short swept [] q built_then t f; known = sources_known swept [] q built_then t f })

module _ (text : List ℕ) (note : ℕ) {p : Result Begun Refusal} (index items groups references labels : List ℕ) where
  pub finished_refused : {refusal : Refusal} → p ≡ Err refusal
      → Finished text note p index items groups references labels (record { counts = Err refusal; note = note }) items groups references labels
  finished_refused y = record {
    gives = λ mode pool index₀ records m items₀ groups₀ b e i. done_refused note (rw y at b) records references labels e;
  }

  module _ {begun : Begun} (y : p ≡ Ok begun) {k : ℕ} (q : k ≡ note_after begun.swept.wants note) {s : SweepState} {items' groups' : List ℕ}
      (t : SweptTo text k index begun.swept items groups s items' groups') {r : Result Counts Refusal} {items'' groups'' references'' labels'' : List ℕ} where
    pub finished_few : s.fits ≡ false → Zeroed items' groups' references labels r items'' groups'' references'' labels''
        → Finished text note p index items groups references labels (record { counts = r; note = k }) items'' groups'' references'' labels''
    finished_few f o = record {
      gives = λ mode pool index₀ records m items₀ groups₀ b e i.
          done_few (swept_so y text mode pool note index₀ m items₀ groups₀ items groups b) records references labels e q
          (built_so y text index index₀ i) t f o;
    }

    pub finished_room : s.fits ≡ true
        → Ordered text (mode_number begun.mode) begun.pool.bytes.now s.groups s.items items' groups' references labels r items'' groups'' references'' labels''
        → Finished text note p index items groups references labels (record { counts = r; note = k }) items'' groups'' references'' labels''
    finished_room f o = record {
      gives = λ mode pool index₀ records m items₀ groups₀ b e i.
          let w = swept_so y text mode pool note index₀ m items₀ groups₀ items groups b in
          done_room w records references labels e q
          (built_so y text index index₀ i) t f (rw (w.mode_is, w.pool_is) at o);
    }

pub ruleset finish_laws = (
  goes_short,
  goes_counted,
  groups_short,
  items_short,
  numbers_none,
  numbers_known,
  finished_refused,
  finished_few,
  finished_room,
)
