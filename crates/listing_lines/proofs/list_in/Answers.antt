-- `listing_lines::list_in`: the listing of the annotation that was made.
-- (With the laws in a `using` on the function and no answers here, the check did not find them.)
use Rattle.std.proofs.Common.{rules}
use Rattle.listing_lines.proofs.Answers.{in_laws}
use Rattle.listing_lines.proofs.list_in.Goals as goal

pub put_listing-requires : goal.put_listing-requires
put_listing-requires c = search (in_laws, rules)

pub returns : goal.returns
returns c = search (in_laws, rules)
