-- The answer of `numbering::numbers::all_defined`:
-- what the iterator's `all` says, said of the records.
use Rattle.std.proofs.Common.{rules, ◌≡◌, ◌+◌, true, false, refl, arith}
use Rattle.std.proofs.lemmas.Iterator.{YieldsList-from_range, cases_from_all}
use Rattle.numbering.specs.Numbers.{key_defined}
use Rattle.numbering.proofs.GroupLaws.{keys_by}
use Rattle.numbering.proofs.numbers.all_defined.Goals as goal

pub returns : goal.returns
returns c =
    let d = c.args.definitions.now in
    keys_by d.text.now d.pool.bytes.now d.groups.now d.items.now d.n c.args.first c.args.count c.all.result
    (cases_from_all _ _ _ (λ j. key_defined d.text.now d.pool.bytes.now d.groups.now d.items.now d.n j ≡ true)
    (λ j. key_defined d.text.now d.pool.bytes.now d.groups.now d.items.now d.n j ≡ false)
    c.all.ensures.ran
    (YieldsList-from_range c.args.first (c.args.first + c.args.count) c.args.count refl (omega arith))
    (λ x q k. search rules) (λ x q k. search rules))
