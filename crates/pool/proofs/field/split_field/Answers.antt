-- `field::split_field`: the bytes have the field,
-- and those after it are left.
use Rattle.std.proofs.Common.{refl}
use Rattle.pool.proofs.PartLaws.{split_is}
use Rattle.pool.proofs.field.split_field.Goals as goal

pub returns : goal.returns
returns c =
    let u = c.in_ok-rest.ensures.lookup.0 in
    split_is c.args.bytes.now c.field_end-end.ensures c.if-bytes-lt3.false u.0 refl u.2
