-- `brackets::bracket_pairs`: the scan's turns,
-- between a cleared index and cleared records.
use Rattle.index.proofs.Stepping.{step_start, step_ready, step_less, step_next, step_end}
use Rattle.index.proofs.brackets.bracket_pairs.Goals as goal

pub loop-c-init : goal.loop-c-init
loop-c-init c = step_start _ _ _ c.requires c.default-c.result c.default-c.ensures (c.fill.ensures.after (λ y h. h))

pub step-c-requires : goal.step-c-requires
step-c-requires c = step_ready _ _ _ _ _ _ c.loop-c.invariant c.loop-c-test.true

pub loop-c-smaller : goal.loop-c-smaller
loop-c-smaller c = step_less _ _ _ _ _ _ c.loop-c.invariant c.loop-c-test.true c.step-c.ensures.0

pub loop-c-preserved : goal.loop-c-preserved
loop-c-preserved c =
    step_next _ _ _ _ _ _ c.loop-c.invariant c.loop-c-test.true c.step-c.ensures.0 c.step-c.ensures.1 c.step-c.ensures.2
    c.step-c.auto.index c.step-c.auto.records

pub returns : goal.returns
returns c = step_end _ _ _ _ _ _ c.loop-c.invariant c.loop-c-test.false c.default.result c.default.ensures (c.fill-2.ensures.after (λ y h. h))
