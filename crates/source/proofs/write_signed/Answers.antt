-- `write_signed`: the sign where there is one,
-- and the digits in what is left of the area.
use Rattle.std.proofs.Common.{arith, length, ◌≤◌}
use Rattle.source.specs.Decimal.{signed_decimal}
use Rattle.source.proofs.YearLaws.{minus_written}
use Rattle.source.proofs.write_signed.Goals as goal

pub returns-then-negative : goal.returns-then-negative
unfolding signed_decimal
returns-then-negative c =
    let h : length (signed_decimal (record { negative = c.args.negative; magnitude = c.args.magnitude })) ≤ length c.args.out.now = c.requires in
    rw c.if-negative.true
    (minus_written c.args.magnitude c.args.out.now c.write_bytes.new.out (let g = rw c.if-negative.true at h in omega arith) c.write_bytes.ensures c.write_decimal.ensures)
