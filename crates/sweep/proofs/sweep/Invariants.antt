-- The invariant of `sweep::sweep`: the groups from the first state to this one are recorded,
-- the rest of the sweep begins here, and no build is wanted.
use Rattle.std.proofs.Common.{length, ◌-◌, ◌≡◌, false}
use Rattle.sweep.specs.Steps.{Onward}
use Rattle.sweep.proofs.sweep.Given as goal

abbrev pub invariant-loop-r : goal.invariant-loop-r
invariant-loop-r l =
    Onward l.indexed.text.now l.indexed.note l.indexed.index.now l.initial.r l.initial.items l.initial.groups l.r l.items l.groups
    × (l.r.wants ≡ false)

abbrev pub decreases-loop-r : goal.decreases-loop-r
decreases-loop-r l = length l.indexed.text.now - l.r.at
