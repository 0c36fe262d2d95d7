-- The first half of an annotation, in the form of the code's goals,
-- and what the build after it asks for.
use Prim.Native.Nat.{ℕ, ◌≤◌}
use mathlib.Core.Path.{◌≡◌, sym}
use mathlib.Core.List.{List}
use mathlib.Core.Bool.{true, true≢false}
use lib.ListN.{length}
use Rattle.std.specs.Prelude.{Result, Ok, Err}
use Rattle.base.specs.declared.refusal.Refusal.{Refusal}
use Rattle.index.specs.Building.{Enough}
use Rattle.sweep.specs.declared.group_records.SweepState.{SweepState}
use Rattle.sweep.specs.Stops.{start_state}
use Rattle.sweep.specs.Recording.{Counted}
use Rattle.sweep.proofs.Laws.{start_counted}
use Rattle.annotation.specs.declared.preparation.Begun.{Begun}
use Rattle.annotation.specs.Refusal.{annotate_refusal}
use Rattle.annotation.specs.Halves.{PreparedBy, prepared_wants}
use Rattle.annotation.proofs.RefusalLaws.{unrefused}

module _ (text : List ℕ) (mode : ℕ) (pool index : List ℕ) (m : ℕ) (q : annotate_refusal text mode pool (length index) m ≡ 0) where
  pub prepared_short : length text ≤ 65535
  prepared_short = (unrefused text mode pool (length index) m q).enough.short

pub prepared_counted : (text items groups : List ℕ) {s : SweepState} → s ≡ start_state → Counted text s (length items) (length groups)
prepared_counted text items groups e = rw e (start_counted text (length items) (length groups))

-- what the build asks for ------------------------------------------------------------------------------------------------------------

module _ (text : List ℕ) (mode : ℕ) (pool : List ℕ) (note : ℕ) (index : List ℕ) (m : ℕ) (items₀ groups₀ : List ℕ) where
  pub wanted_enough : (p : Result Begun Refusal) (items groups : List ℕ) → PreparedBy text mode pool note index m items₀ groups₀ p items groups
      → prepared_wants p ≡ true → Enough text (length index) m
  unfolding prepared_wants
  wanted_enough (Err refusal) items groups b w = absurd (true≢false (sym w))
  wanted_enough (Ok begun) items groups b w = (unrefused text mode pool (length index) m b.passes).enough
