use Rattle.std.proofs.Common.{ℕ, ◌-◌, ◌*◌, arith, rules}
use Rattle.std.proofs.lemmas.List.{take_rest}
use Rattle.std.proofs.lemmas.Str.{IsUtf8-from_ascii}
use Rattle.simdutf8.proofs.Parts.{front_and_part}
use Rattle.utf8.proofs.known_front.Goals as goal

pub loop-at-preserved-then-is_ascii : goal.loop-at-preserved-then-is_ascii
loop-at-preserved-then-is_ascii c =
    let ascii = rw take_rest at (c.is_ascii.ensures c.if-is_ascii.true) in
    (omega arith, front_and_part _ c.loop-at.at c.loop-at.invariant.0 c.loop-at.invariant.1 64 (IsUtf8-from_ascii _ ascii))

pub loop-at-preserved : goal.loop-at-preserved
loop-at-preserved c =
    let n : ℕ = 64 * c.min-blocks.result - c.open_bytes-cut.result in
    let known = rw take_rest at (c.are_utf8.ensures (search rules)) in
    (search rules, front_and_part _ c.loop-at.at c.loop-at.invariant.0 c.loop-at.invariant.1 n known)
