-- The answers of `Setting::number_groups`: one group more,
-- one with a label that does not fit, and all.
use Rattle.std.proofs.Common.{◌≡◌, arith}
use Rattle.numbering.proofs.LabelledLaws.{labelled_start}
use Rattle.numbering.proofs.NumberLaws.{groups_start, groups_more, groups_over, groups_end}
use Rattle.numbering.proofs.Setting.number_groups.Goals as goal

pub loop-g-init : goal.loop-g-init
loop-g-init c = (groups_start _ _ _ _ _ _ _ _ (omega arith), c.requires.2, labelled_start _ _ _ _ _ _ _ _ _ c.requires.1)

pub returns-in_err-s-clause-holds : goal.returns-in_err-s-clause-holds
returns-in_err-s-clause-holds c =
    rw c.from_residual.ensures
    (groups_end _ _ _ _ (groups_over _ _ _ _ _ _ _ _ _ c.loop-g-test.true c.loop-g.invariant.0 c.in_err-s.ensures.advances))

pub loop-g-preserved : goal.loop-g-preserved
loop-g-preserved c =
    (groups_more _ _ _ _ _ _ _ _ _ _ c.loop-g.invariant.0 c.in_ok-s.ensures.advances, c.in_ok-s.ensures.lines, c.in_ok-s.ensures.labelled)

pub returns-clause-holds : goal.returns-clause-holds
returns-clause-holds c =
    let e : c.loop-g.g ≡ c.args.self.now.n = omega arith in
    groups_end _ _ _ _ (rw e at c.loop-g.invariant.0)
