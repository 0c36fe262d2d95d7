-- `layout::is_entry`: the entry is good where the rest is,
-- after a field with the tag `last`.
use Rattle.std.proofs.Common.{◌≡◌, ◌<◌, length}
use Rattle.std.specs.Prelude.{IfSome}
use Rattle.std.specs.Option.{unwrap_or}
use Rattle.pool.specs.Steps.{good_rest}
use Rattle.pool.proofs.layout.is_entry.Given as goal

abbrev pub invariant-loop-rest : goal.invariant-loop-rest
invariant-loop-rest l = record {
  same : good_rest 0 l.bytes ≡ good_rest (unwrap_or l.last 0) l.rest;
  some : IfSome l.last (λ t. 0 < t);
}

abbrev pub decreases-loop-rest : goal.decreases-loop-rest
decreases-loop-rest l = length l.rest
