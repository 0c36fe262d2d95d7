use Rattle.simdutf8.proofs.Lanes.{ascii_of_mask}
use Rattle.utf8.proofs.is_ascii.Goals as goal

pub returns : goal.returns
returns c = ascii_of_mask c.args.block c.fits-block.0
