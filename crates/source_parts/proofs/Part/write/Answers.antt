-- `Part::write`: three pieces,
-- each after the one before.
use Rattle.std.proofs.Common.{refl, [], ◌∷◌}
use Rattle.source.specs.Years.{year_bytes}
use Rattle.source_parts.proofs.PartLaws.{pieces_written}
use Rattle.source_parts.proofs.Part.write.Goals as goal

pub returns-in-Given : goal.returns-in-Given
returns-in-Given c =
    let h = rw c.in-Given.is at c.requires in
    rw c.in-Given.is
    (pieces_written c.in-Given.family.now (44 ∷ 32 ∷ []) c.in-Given.given.now c.args.out.now c.write_bytes-in-Given.new.out _ _ h refl refl
    c.write_bytes-in-Given.ensures c.write_bytes-in-Given-2.ensures refl c.write_bytes-in-Given-3.ensures)

pub returns-in-InParens : goal.returns-in-InParens
returns-in-InParens c =
    let h = rw c.in-InParens.is at c.requires in
    let e = c.len-end.ensures.0 in
    rw c.in-InParens.is
    (pieces_written (40 ∷ []) (year_bytes c.in-InParens.year) (41 ∷ []) c.args.out.now c.write_bytes-in-InParens.new.out 1 _ h refl
    (rw e refl) c.write_bytes-in-InParens.ensures c.write.ensures refl c.write_bytes-in-InParens-2.ensures)
