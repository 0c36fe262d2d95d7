-- Theorems: what the paper claims of sweeps: how many items they have, and that they run in two stretches;
-- proved in proofs/.
use Rattle.std.specs.Prelude.{ℕ, ◌/◌, ◌≤◌, List, [], ◌++◌, ◌≡◌, length}
use Rattle.item.specs.Group.{Group}
use Rattle.sweep.specs.Sweep.{Lent, Swept, swept, lent_after, sweep_of, sweep_run}
use Rattle.standing.specs.GroupRecords.{item_count}
use Rattle.sweep.specs.Stops.{Stop, stop_from}

-- "the size call, which gives floor(bytes / 3); no annotation with an index as left needs more item records"
abbrev pub SizeEnough : Type 0
SizeEnough = (text : List ℕ) → item_count (sweep_of text) ≤ length text / 3

-- no sweep with any index and note has more items: a place that an index holds is taken only after its bracket and inside the text
abbrev pub SizeEnoughRun : Type 0
SizeEnoughRun = (text : List ℕ) (l : Lent) → item_count (sweep_run text l).groups ≤ length text / 3

-- The sweep in two stretches, as the code runs it: `s` is the stop at a bracket that wants a build, or at the end; from there it goes on
-- with the note and the index as they are after the build.
unfoldable pub gone_on : List ℕ → List Group → Lent → Stop → Swept
gone_on text so_far l s =
    swept
    (so_far ++ (s.groups ++ (stop_from text (lent_after s.wants text l).note (lent_after s.wants text l).index s.at).groups))
    (lent_after s.wants text l)

-- the sweep in two stretches, with the build between them, is the sweep as run
abbrev pub SweepInTwo : Type 0
SweepInTwo = (text : List ℕ) (l : Lent) → sweep_run text l ≡ gone_on text [] l (stop_from text l.note l.index 0)
