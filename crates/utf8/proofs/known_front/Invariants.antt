use Rattle.std.proofs.Common.{◌-◌, ◌≤◌, length, take, IsUtf8}
use Rattle.utf8.proofs.known_front.Given as goal

abbrev pub invariant-loop-at : goal.invariant-loop-at
invariant-loop-at l = (l.at ≤ length l.text) × IsUtf8 (take l.at l.text)

abbrev pub decreases-loop-at : goal.decreases-loop-at
decreases-loop-at l = length l.text - l.at
