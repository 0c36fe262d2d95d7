-- `brackets::bracket_pairs`: what holds at the head of the loop over the turns,
-- and how much of the text is left.
use Rattle.std.proofs.Common.{length, ◌-◌}
use Rattle.index.proofs.Stepping.{Stepped}
use Rattle.index.proofs.brackets.bracket_pairs.Given as goal

abbrev pub invariant-loop-c : goal.invariant-loop-c
invariant-loop-c l = Stepped l.text l.fn.index l.fn.records l.c l.index l.records

abbrev pub decreases-loop-c : goal.decreases-loop-c
decreases-loop-c l = length l.text - l.c.at
