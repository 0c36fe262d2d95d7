-- `Pool::count`: a pool with bytes has room for its count,
-- and no pool has no entries.
use Rattle.std.proofs.Common.{arith}
use Rattle.pool.proofs.PoolLaws.{laid_out_lem, count_none}
use Rattle.pool.proofs.Pool.count.Goals as goal

pub u16_at-requires : goal.u16_at-requires
u16_at-requires c = let h = (laid_out_lem c.args.self.bytes.now c.args.self.laid_out (grind arith)).pairs in omega arith

pub returns-then-is_empty : goal.returns-then-is_empty
returns-then-is_empty c = count_none c.args.self.bytes.now c.args.self.laid_out (grind arith)
