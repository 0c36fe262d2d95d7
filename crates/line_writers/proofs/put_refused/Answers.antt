-- The word and the number are the refusal's line,
-- and the text began at the front of the area.
use Rattle.std.proofs.Common.{refl, arith, rules}
use Rattle.line_writers.proofs.Lines.{refused_wrote}
use Rattle.line_writers.proofs.put_refused.Goals as goal

pub returns : goal.returns
returns c = refused_wrote c.args.number refl refl c.requires (omega arith) (search rules) c.put_count.ensures
