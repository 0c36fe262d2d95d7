-- `add_names`: one name more,
-- and none is left.
use Rattle.std.proofs.Common.{◌∙◌, ap}
use Rattle.pool.specs.Entries.{entry_of}
use Rattle.pool.specs.Views.{names_left}
use Rattle.source_text.proofs.TextLaws.{names_step, names_end}
use Rattle.source_text.proofs.add_names.Goals as goal

pub loop-name-preserved : goal.loop-name-preserved
loop-name-preserved c =
    λ last h. c.loop-name.invariant last (names_step c.in-Some.ensures.steps c.name.ensures c.join.ensures h)

pub returns : goal.returns
unfolding entry_of
returns c =
    rw (← ap names_left c.into_iter-name-iterator.ensures.into_iter_gives ∙ c.names-name-items.ensures)
    (c.loop-name.invariant _ (names_end _ c.in-None.ensures.steps.0))
