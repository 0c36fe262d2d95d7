-- The answers of `base::search::after_last`: one step of the search, at the place before `i`,
-- and where no place is left.
use Rattle.std.proofs.Common.{◌≡◌, ◌+◌, ◌-◌, sym, ◌∙◌, arith}
use Rattle.base.proofs.Lasts.{last_end_out, last_end_stop, last_end_more}
use Rattle.base.proofs.search.after_last.Goals as goal

pub loop-i-preserved : goal.loop-i-preserved
loop-i-preserved g c = λ p h.
    let t = sym (h (c.loop-i.i - 1) _ (omega arith) (omega arith) c.test.ensures) ∙ c.if-test.false in
    last_end_more p _ _ _ (c.loop-i.invariant p h) c.loop-i-test.true t

pub returns-then-test : goal.returns-then-test
returns-then-test g c = λ p h.
    let t = sym (h (c.loop-i.i - 1) _ (omega arith) (omega arith) c.test.ensures) ∙ c.if-test.true in
    let z : c.loop-i.i - 1 + 1 ≡ c.loop-i.i = omega arith in
    z ∙ last_end_stop p _ _ _ (c.loop-i.invariant p h) c.loop-i-test.true t

pub returns : goal.returns
returns g c = λ p h. last_end_out p _ _ _ (c.loop-i.invariant p h) c.loop-i-test.false
