-- The answers of `uses::count_in`:
-- the key was used before, or it was not.
use Rattle.uses.proofs.UseLaws.{counts_again, counts_first}
use Rattle.uses.proofs.count_in.Goals as goal

pub returns-in-Some : goal.returns-in-Some
returns-in-Some c = counts_again _ _ _ _ _ c.in-Some.ensures.0 c.in-Some.ensures.1 c.field.ensures.0 c.field-in-Some.ensures.0 c.next_use.ensures

pub returns-in-None : goal.returns-in-None
returns-in-None c = counts_first _ _ _ _ _ c.in-None.ensures c.next_use-in-None.ensures
