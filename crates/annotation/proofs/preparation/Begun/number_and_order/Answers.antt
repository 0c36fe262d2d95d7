-- The answers of `Begun::number_and_order`: the labels have no room, the references have none, or both have it.
-- The definitions that the references are ordered by are those of the setting.
use Rattle.annotation.proofs.OrderLaws.{ordered_room, few_labels, few_references}
use Rattle.annotation.proofs.preparation.Begun.number_and_order.Goals as goal

pub returns-in_default : goal.returns-in_default
returns-in_default c =
    let a = c.number_groups.auto in few_labels _ _ _ _ _ _ _ _ _ c.refuse_ten.ensures a.items a.groups a.labels c.in_default.ensures.holds

pub returns-then-references-sources : goal.returns-then-references-sources
returns-then-references-sources c =
    let a = c.number_groups.auto in
    few_references _ _ _ _ _ _ _ _ _ c.refuse_ten-then-references-sources.ensures a.items a.groups a.labels c.in-Some.ensures.holds
    c.if-references-sources.true

pub returns : goal.returns
returns c =
    let d = c.definitions.ensures in
    ordered_room _ _ _ _ _ _ _ _ _ c.in-Some.ensures.holds c.if-references-sources.false
    (rw (d.0, d.1, d.2, d.3, d.4) at c.order.ensures)
