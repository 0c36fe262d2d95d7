-- `Pool::entry`: an entry stands between its bounds,
-- and its bytes are the fields that stand there.
use Rattle.std.proofs.Common.{arith}
use Rattle.pool.proofs.PoolLaws.{pair_there, entry_there, entry_is, entry_reads}
use Rattle.pool.proofs.Pool.entry.Goals as goal

pub entry_bounds-start-requires : goal.entry_bounds-start-requires
entry_bounds-start-requires c = pair_there c.args.self.bytes.now c.args.self.laid_out c.requires

pub slice_bounds-result-end : goal.slice_bounds-result-end
slice_bounds-result-end c = let h = (entry_there c.args.self.bytes.now c.args.i c.args.self.laid_out c.requires).inside in omega arith

pub invariant_of-result : goal.invariant_of-result
invariant_of-result c = record { filled = entry_is c.args.self.bytes.now c.args.i c.args.self.laid_out c.requires c.entry_bounds-start.ensures.0 c.entry_bounds-start.ensures.1 }

pub returns : goal.returns
returns c = entry_reads c.args.self.bytes.now c.args.i c.args.self.laid_out c.requires c.entry_bounds-start.ensures.0 c.entry_bounds-start.ensures.1
