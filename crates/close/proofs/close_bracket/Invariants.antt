-- The invariant of `close::close_bracket`: what the whole scan finds is what the rest of it finds,
-- from `i` at the depth `d`.
use Rattle.std.proofs.Common.{◌≡◌, ◌-◌, ◌≤◌, ◌<◌}
use Rattle.close.specs.Scan.{close_in, close_within}
use Rattle.close.proofs.close_bracket.Given as goal

abbrev pub invariant-loop-i : goal.invariant-loop-i
invariant-loop-i l =
    (0 < l.d.nest) × (l.d.nest ≤ l.i) × (close_within l.limit l.text l.at ≡ close_in (l.end - l.i) l.text l.i l.d)
