-- `Text::join`: an empty part, a part of an empty text,
-- and both with the separator between them.
use Rattle.std.proofs.Common.{◌∙◌, refl}
use Rattle.source_parts.specs.Parts.{part_text}
use Rattle.source_parts.proofs.PartLaws.{holds_as, beside_none, beside_first, beside_both}
use Rattle.source_parts.proofs.Text.join.Goals as goal
use Rattle.source_parts.proofs.Text.join.Goals.{then-self-ne0, else-self-ne0}

pub returns-then-count-eq0 : goal.returns-then-count-eq0
returns-then-count-eq0 c = record {
  held = λ text before h. holds_as (beside_none c.args.separator.now text (part_text c.args.part) c.len-count.ensures c.if-count-eq0.true) h;
  same_area = refl;
}

pub returns : goal.returns
returns c = elim c.if-self-ne0.branch [
  | then-self-ne0 w ↦
      let p = rw w.self-is at c.push_counted.ensures in
      record {
        held = λ text before h.
            holds_as (beside_both c.args.separator.now text (part_text c.args.part) h.count w.if-self-ne0.true c.len-count.ensures c.if-count-eq0.false)
            (p.held _ before (w.push.ensures.held text before h));
        same_area = p.same_area ∙ w.push.ensures.same_area;
      }
  | else-self-ne0 w ↦
      let p = rw w.self-is at c.push_counted.ensures in
      record {
        held = λ text before h.
            holds_as (beside_first c.args.separator.now text (part_text c.args.part) h.count w.if-self-ne0.false) (p.held text before h);
        same_area = p.same_area;
      }
]
