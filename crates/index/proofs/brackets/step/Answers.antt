-- `brackets::step`: what it plans, and the state after the ordinary bytes that follow,
-- are the turn over the lent records.
use Rattle.std.proofs.Common.{◌∙◌, refl, ap, rules}
use Rattle.index.specs.declared.Plan.{Plan}
use Rattle.index.specs.Scan.{step_index, step_records}
use Rattle.index.proofs.Stepping.{turned}
use Rattle.index.proofs.brackets.step.Goals as goal

pub store-requires : goal.store-requires
store-requires c =
    rw (ap (λ (p : Plan). p.slot) (turned c.args.text.now c.args.c c.args.records.now c.scan_plan-plan.ensures refl c.record_at-outer.ensures c.saturating_sub.ensures))
    c.requires.slot

pub bounds-index-plan : goal.bounds-index-plan
bounds-index-plan c =
    rw (ap (λ (p : Plan). p.place) (turned c.args.text.now c.args.c c.args.records.now c.scan_plan-plan.ensures refl c.record_at-outer.ensures c.saturating_sub.ensures))
    c.requires.place

pub offset_bounds-index-plan : goal.offset_bounds-index-plan
offset_bounds-index-plan c = let h = bounds-index-plan c in search rules

pub returns : goal.returns
unfolding step_index step_records
returns c =
    let t = turned c.args.text.now c.args.c c.args.records.now c.scan_plan-plan.ensures c.skip.ensures c.record_at-outer.ensures c.saturating_sub.ensures in (
      ap (λ (p : Plan). p.next) t,
      ap (λ (p : Plan). step_index p c.args.index.now) t,
      c.store.ensures ∙ ap (λ (p : Plan). step_records p c.args.records.now) t,
    )
