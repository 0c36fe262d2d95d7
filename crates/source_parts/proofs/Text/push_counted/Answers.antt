-- `Text::push_counted`: a part that has room
-- stands after the text.
use Rattle.std.proofs.Common.{refl, arith}
use Rattle.source_parts.specs.Parts.{part_text}
use Rattle.source_parts.proofs.PartLaws.{push_room}
use Rattle.source_parts.proofs.Text.push_counted.Goals as goal

pub returns-then-self : goal.returns-then-self
returns-then-self c = record {
  held = λ text before h.
      push_room text before (part_text c.args.part) c.write.new.out c.args.self.now _ h c.requires c.saturating_add-self.ensures (omega arith) (omega arith)
      c.write.ensures refl;
  same_area = refl;
}
