-- The answer of `sweep::group_records::record_group`:
-- the state after the group, by whether its records fitted.
use mathlib.Core.Path.{◌∙◌}
use Rattle.sweep.proofs.Recording.{recorded_fits, recorded_not}
use Rattle.sweep.proofs.group_records.record_group.Goals.{then-fits, else-fits}
use Rattle.sweep.proofs.group_records.record_group.Goals as goal

pub returns : goal.returns
returns c = elim c.if-fits.branch [
  | then-fits w ↦ recorded_fits _ _ _ _ _ _ _ c.requires c.is_in_line-inside.ensures c.has_room-fits.ensures w.if-fits.true
      w.standing_of.ensures (w.items-is ∙ w.write_items.ensures) (w.groups-is ∙ w.write_group.ensures) c.after_group.ensures
  | else-fits w ↦ recorded_not _ _ _ _ _ _ _ c.requires c.is_in_line-inside.ensures c.has_room-fits.ensures w.if-fits.false
      w.items-is w.groups-is c.after_group.ensures
]
