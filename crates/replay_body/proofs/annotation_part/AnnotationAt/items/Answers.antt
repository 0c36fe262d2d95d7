-- The answers of `annotation_part::AnnotationAt::items`:
-- what follows the group records follows the numbers and them.
use Rattle.std.proofs.Common.{◌*◌}
use Rattle.records.specs.Widths.{group_width}
use Rattle.replay_body.specs.Bodies.{number_at}
use Rattle.replay_body.proofs.NumberLaws.{dropped_twice}
use Rattle.replay_body.proofs.annotation_part.AnnotationAt.items.Goals as goal

pub returns : goal.returns
returns c = rw (c.after.ensures, c.groups.ensures, c.number.ensures.number) (dropped_twice (2 * group_width * number_at c.args.self.part.0.now 6) 16 c.args.self.part.0.now)
