-- The answers of `Setting::cite_from`: one item more, one whose label does not fit, and all.
-- The items before `k` are `k - first`.
use Rattle.std.proofs.Common.{◌≡◌, ◌-◌, arith}
use Rattle.numbering.proofs.NumberLaws.{cites_start, cites_more, cites_over}
use Rattle.numbering.proofs.Setting.cite_from.Goals as goal

pub loop-k-init : goal.loop-k-init
loop-k-init c = (cites_start _ _ _ _ _ _ _ _ _ c.requires.3, c.requires.4, c.requires.5)

pub returns-in_err-so_far-clause-advances : goal.returns-in_err-so_far-clause-advances
returns-in_err-so_far-clause-advances c =
    rw c.from_residual.ensures
    (cites_over _ _ _ _ _ _ _ _ _ (omega arith) c.loop-k-test.true c.loop-k.invariant.0 c.in_err-so_far.ensures.advances)

pub loop-k-preserved : goal.loop-k-preserved
loop-k-preserved c = (
  cites_more _ _ _ _ _ _ _ _ _ _ (omega arith) c.loop-k.invariant.0 c.in_ok-so_far.ensures.advances,
  c.in_ok-so_far.ensures.lines,
  c.in_ok-so_far.ensures.labelled,
)

pub returns-clause-advances : goal.returns-clause-advances
returns-clause-advances c =
    let e : c.loop-k.k - c.args.first ≡ c.args.count = omega arith in
    rw e at c.loop-k.invariant.0
