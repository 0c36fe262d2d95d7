-- The answers of `sweep::turn`:
-- a bracket that wants a build, a group, or none.
use mathlib.Core.Path.{refl}
use Rattle.resolve.specs.Groups.{judge}
use Rattle.resolve.specs.Looks.{matched}
use Rattle.sweep.proofs.Turns.{turned_next, turned_build, turn_recordable, turned_group}
use Rattle.sweep.proofs.turn.Goals as goal

pub record_group-requires : goal.record_group-requires
record_group-requires c =
    turn_recordable _ _ _ _ _ _ c.find_byte-at.ensures c.requires.1 c.requires.2 c.if-indexed-at.false c.in-Known.ensures c.in-Some.ensures c.requires.0

pub returns-in-Build : goal.returns-in-Build
returns-in-Build c =
    turned_build _ _ _ _ _ _ c.find_byte-at.ensures c.requires.1 c.requires.2 c.if-indexed-at.false c.in-Build.ensures c.move_to-in-Build.ensures

pub returns-in-Some : goal.returns-in-Some
returns-in-Some c =
    turned_group _ _ _ _ _ _ c.find_byte-at.ensures c.requires.1 c.requires.2 c.if-indexed-at.false c.in-Known.ensures c.in-Some.ensures c.record_group.ensures

pub returns-in-None : goal.returns-in-None
returns-in-None c =
    turned_next _ _ _ _ _ _ c.find_byte-at.ensures c.requires.1 c.requires.2 c.if-indexed-at.false c.in-Known.ensures c.in-None.ensures c.move_to-in-None.ensures

-- no close, so no group
pub returns-in-Known-None : goal.returns-in-Known-None
unfolding matched judge
returns-in-Known-None c =
    turned_next _ _ _ _ _ _ c.find_byte-at.ensures c.requires.1 c.requires.2 c.if-indexed-at.false c.in-Known-None.ensures (rw c.in-Known-None.field-0-is refl) c.move_to-in-Known-None.ensures
