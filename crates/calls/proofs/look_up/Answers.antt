-- The answers of `calls::look_up`: the first half, the build where it asks for one, and the second half are the look-up
-- as run.
use Rattle.std.proofs.Common.{ℕ, ◌≡◌, ◌∙◌, ap, sym, List, Bool, true, length}
use Rattle.index.specs.declared.Bracket.{Bracket}
use Rattle.index.specs.Building.{Both, built_when, Enough}
use Rattle.lookup.specs.declared.LookUp.{LookUp}
use Rattle.std.specs.Prelude.{Result}
use Rattle.base.specs.declared.refusal.Refusal.{Refusal}
use Rattle.resolve.specs.declared.Look.{Look}
use Rattle.lookup.specs.Halves.{prepared_of, prepared_wants, CanFinish, finished_of, finished_items}
use Rattle.lookup.proofs.Halves.{can_finish, wanted_enough, finished_answer, finished_values, finished_items_lem, ran_index, ran_records}
use Rattle.histories.specs.Promises.{LookUpPromise}
use Rattle.calls.proofs.look_up.Goals as goal

module _ (s : List ℕ) (at note : ℕ) (index : List ℕ) (records : List Bracket) {p : Result Look Refusal} {w : Bool}
    (first : p ≡ prepared_of s at note index (length records)) (wants : w ≡ prepared_wants p) where
  wanted : w ≡ prepared_wants (prepared_of s at note index (length records))
  wanted = wants ∙ ap prepared_wants first

  -- what the build asks for is there
  enough : w ≡ true → Enough s (length index) (length records)
  enough t = wanted_enough s at note index (length records) (sym wanted ∙ t)

  finishes : CanFinish s at p
  finishes = rw first (can_finish s at note index (length records))

  promised : (items : List ℕ) {index₂ items₃ : List ℕ} {records₂ : List Bracket} {r : LookUp}
      → ◌≡◌ {A = Both} (index₂, records₂) (built_when w s index records)
      → r ≡ finished_of s at note p index₂ items → items₃ ≡ finished_items s at p index₂ items
      → LookUpPromise s at note index records items r index₂ records₂ items₃
  promised items build answer area =
      let after = ap (λ (b : Both). b.0) build in
      let stored = ap (λ (b : Both). b.1) build in
      let answered = rw first at answer in (
        rw answered (finished_values s at note index records items wanted after),
        ran_index s at note index records items wanted after,
        ran_records s at note index records items wanted after stored,
        rw first at area ∙ finished_items_lem s at note index records items wanted after,
        answered ∙ finished_answer s at note index records items wanted after,
      )

pub build_when-requires : goal.build_when-requires
build_when-requires c = enough _ _ _ _ _ c.prepare-prepared.ensures c.wants_build.ensures

pub finish-requires : goal.finish-requires
finish-requires c = finishes _ _ _ _ _ c.prepare-prepared.ensures c.wants_build.ensures

pub returns : goal.returns
returns c = promised _ _ _ _ _ c.prepare-prepared.ensures c.wants_build.ensures _ c.build_when.ensures c.finish.ensures.returned c.finish.ensures.item_area
