-- `Names::next`: no name is passed over,
-- and one fewer is left after each.
use Rattle.std.proofs.Common.{rules, arith, ap, length}
use Rattle.std.specs.Prelude.{None, Some}
use Rattle.pool.proofs.FindLaws.{name_found}
use Rattle.pool.proofs.names.NamesIterator.next.Goals as goal

pub returns-in_err-find-clause-steps : goal.returns-in_err-find-clause-steps
returns-in_err-find-clause-steps c =
    rw c.from_residual.ensures (name_found _ (λ x b q k. search rules) c.args.self.now.fields c.find.new.self None c.in_err-find.ensures.ran)

pub returns-clause-steps : goal.returns-clause-steps
returns-clause-steps c =
    rw c.name_after.ensures (name_found _ (λ x b q k. search rules) c.args.self.now.fields c.find.new.self (Some c.in_ok-find.field-0) c.in_ok-find.ensures.ran)

pub returns-clause-goes : goal.returns-clause-goes
returns-clause-goes c =
    let e = ap length (name_found _ (λ x b q k. search rules) c.args.self.now.fields c.find.new.self (Some c.in_ok-find.field-0) c.in_ok-find.ensures.ran) in
    record { on = λ _. (tt, tt, omega arith); keeps = tt; rests = λ _. tt }
