use Rattle.std.proofs.Common.{◌≡◌, ℕ, ◌+◌, ◌-◌, ◌*◌, ◌++◌, arith, append_assoc, take-add, take-take, take, drop, replicate}
use Rattle.simdutf8.proofs.StepsLemmas.{IsUtf8-append_ascii, IsAscii-replicate}
use Rattle.utf8.proofs.are_utf8.Goals as goal

pub loop-i-preserved : goal.loop-i-preserved
loop-i-preserved c =
    let on : 64 * (c.loop-i.i + 1) ≡ 64 * c.loop-i.i + 64 = omega arith in
    rw (on, take-add) (c.step-checker.ensures _ c.loop-i.invariant)

pub returns : goal.returns
returns c t =
    let bs = c.args.bytes.now in
    let n : ℕ = 64 * (c.args.blocks - 1) in
    let k : ℕ = 64 - c.args.cut in
    let ended : 64 * c.loop-i.i ≡ n = omega arith in
    let kept : 64 * c.args.blocks - c.args.cut ≡ n + k = omega arith in
    let block : n + 64 - n ≡ 64 = omega arith in
    let said = c.finish.ensures _ (rw (c.closed_block.ensures, block, ← append_assoc) at (c.step.ensures _ (rw ended at c.loop-i.invariant))) in
    let pad = IsUtf8-append_ascii (take n bs ++ take k (take 64 (drop n bs))) (replicate c.args.cut 0) (IsAscii-replicate c.args.cut 0 (omega arith)) in
    rw (kept, take-add, ← take-take k 64 (drop n bs) (omega arith)) (pad.0 (said.0 t))
