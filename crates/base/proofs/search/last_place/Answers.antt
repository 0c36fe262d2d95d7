-- The answers of `base::search::last_place`: one step of the search, at the place before `i`,
-- and where no place is left.
use Rattle.std.proofs.Common.{◌-◌, sym, ◌∙◌, arith}
use Rattle.base.proofs.Lasts.{last_now, last_next, last_none}
use Rattle.base.proofs.search.last_place.Goals as goal

pub loop-i-preserved : goal.loop-i-preserved
loop-i-preserved g c = λ p h d.
    let t = sym (h (c.loop-i.i - 1) _ (omega arith) c.test.ensures) ∙ c.if-test.false in
    c.loop-i.invariant p h d ∙ last_next p _ c.loop-i-test.true t d

pub returns-then-test : goal.returns-then-test
returns-then-test g c = λ p h d.
    let t = sym (h (c.loop-i.i - 1) _ (omega arith) c.test.ensures) ∙ c.if-test.true in
    sym (c.loop-i.invariant p h d ∙ last_now p _ c.loop-i-test.true t d)

pub returns : goal.returns
returns g c = λ p h d. sym (c.loop-i.invariant p h d ∙ last_none p _ c.loop-i-test.false d)
