-- The answers of `base::search::first_place`: one step of the search, at the place `i`,
-- and where no place is left.
use Rattle.std.proofs.Common.{◌-◌, sym, ◌∙◌, arith}
use Rattle.base.proofs.Searches.{first_out, first_stop, first_more, first_from, first_by}
use Rattle.base.proofs.search.first_place.Goals as goal

pub loop-i-preserved : goal.loop-i-preserved
loop-i-preserved g c = λ p h.
    first_more p _ _ (c.loop-i.invariant p h) c.loop-i-test.true (sym (h _ _ c.loop-i.auto.i c.loop-i-test.true c.test.ensures) ∙ c.if-test.false)

pub returns-then-test : goal.returns-then-test
returns-then-test g c = λ p h.
    first_stop p _ _ (c.loop-i.invariant p h) c.loop-i-test.true (sym (h _ _ c.loop-i.auto.i c.loop-i-test.true c.test.ensures) ∙ c.if-test.true)

pub returns : goal.returns
returns g c = λ p h.
    let out = first_out p _ _ (c.loop-i.invariant p h) c.loop-i-test.false in
    let l = first_from p (c.args.e - c.args.a) c.args.a in
    let u = first_by p (c.args.e - c.args.a) c.args.a in
    omega arith
