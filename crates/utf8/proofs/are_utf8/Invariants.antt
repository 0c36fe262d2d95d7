use Rattle.std.proofs.Common.{◌*◌, take}
use Rattle.simdutf8.specs.Tracks.{HasRead}
use Rattle.utf8.proofs.are_utf8.Given as goal

abbrev pub invariant-loop-i : goal.invariant-loop-i
invariant-loop-i l = HasRead l.checker (take (64 * l.i) l.bytes)
