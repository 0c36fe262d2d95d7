-- `Text::push`: bytes that have room
-- stand after the text.
use Rattle.std.proofs.Common.{refl, arith}
use Rattle.source_parts.proofs.PartLaws.{push_room}
use Rattle.source_parts.proofs.Text.push.Goals as goal

pub returns-then-self : goal.returns-then-self
returns-then-self c = record {
  held = λ text before h.
      push_room text before c.args.bytes.now c.write_bytes.new.out c.args.self.now _ h (omega arith) c.saturating_add-self.ensures (omega arith) (omega arith)
      c.write_bytes.ensures refl;
  same_area = refl;
}
