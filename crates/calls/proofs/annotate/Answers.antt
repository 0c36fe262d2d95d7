-- The answers of `calls::annotate`: the first half, the build where it asks for one, and the second half are the annotation
-- as run.
use Rattle.std.proofs.Common.{ℕ, ◌≡◌, ◌∙◌, ap, refl, sym, List, Bool, true, length}
use Rattle.index.specs.declared.Bracket.{Bracket}
use Rattle.index.specs.Built.{index_after, records_after}
use Rattle.index.specs.Building.{Both, built_when, Enough}
use Rattle.annotation.specs.declared.answer.Annotation.{Annotation}
use Rattle.std.specs.Prelude.{Result}
use Rattle.base.specs.declared.refusal.Refusal.{Refusal}
use Rattle.annotation.specs.declared.preparation.Begun.{Begun}
use Rattle.annotation.specs.Content.{areas}
use Rattle.annotation.specs.Halves.{PreparedBy, prepared_wants, CanFinish, Finished}
use Rattle.annotation.proofs.BeginLaws.{wanted_enough}
use Rattle.annotation.proofs.Answers.{ran_index, ran_records}
use Rattle.histories.specs.Promises.{AnnotatePromise}
use Rattle.calls.proofs.annotate.Goals as goal

module _ (s : List ℕ) (mode : ℕ) (pool : List ℕ) (note : ℕ) (index items groups : List ℕ) (records : List Bracket) {w : Bool} (p : Result Begun Refusal)
    (items₁ groups₁ : List ℕ) (first : PreparedBy s mode pool note index (length records) items groups p items₁ groups₁) (wants : w ≡ prepared_wants p) where
  -- what the build asks for is there
  enough : w ≡ true → Enough s (length index) (length records)
  enough t = wanted_enough s mode pool note index (length records) items groups p items₁ groups₁ first (sym wants ∙ t)

  module _ {index₂ : List ℕ} {records₂ : List Bracket} (build : ◌≡◌ {A = Both} (index₂, records₂) (built_when w s index records)) where
    after : index₂ ≡ index_after (prepared_wants p) s index
    after = ap (λ (b : Both). b.0) build ∙ rw wants refl

    stored : records₂ ≡ records_after (prepared_wants p) s records
    stored = ap (λ (b : Both). b.1) build ∙ rw wants refl

    finishes : CanFinish s note p index₂ items₁ groups₁
    finishes = record { mode = mode; pool = pool; index₀ = index; lent = length records; items₀ = items; groups₀ = groups; prepared = first; built = after }

    promised : {references labels items₃ groups₃ references₃ labels₃ : List ℕ} {r : Annotation}
        → Finished s note p index₂ items₁ groups₁ references labels r items₃ groups₃ references₃ labels₃
        → AnnotatePromise s mode pool note index records (areas items groups references labels) r index₂ records₂ (areas items₃ groups₃ references₃ labels₃)
    promised {references} {labels} last =
        let done = last.gives mode pool index records (length records) items groups first refl after in (
          done.values,
          after ∙ sym (ran_index s mode pool note index items groups records references labels p items₁ groups₁ first),
          stored ∙ sym (ran_records s mode pool note index items groups records references labels p items₁ groups₁ first),
          done.item_area,
          done.group_area,
          done.reference_area,
          done.label_area,
          done.answer,
        )

pub build_when-requires : goal.build_when-requires
build_when-requires c = enough _ _ _ _ _ _ _ _ _ _ _ c.prepare-prepared.ensures c.wants_build.ensures

pub finish-requires : goal.finish-requires
finish-requires c = finishes _ _ _ _ _ _ _ _ _ _ _ c.prepare-prepared.ensures c.wants_build.ensures c.build_when.ensures

pub returns : goal.returns
returns c = promised _ _ _ _ _ _ _ _ _ _ _ c.prepare-prepared.ensures c.wants_build.ensures c.build_when.ensures c.finish.ensures
