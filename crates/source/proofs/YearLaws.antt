-- Numbers with their sign: the sign and the magnitude of a number,
-- and `-` with the digits after it in an area.
use Prim.Native.Nat.{ℕ, ◌+◌, ◌-◌, ◌≤◌}
use native.Mathlib.Omega.{arith}
use mathlib.Core.Path.{◌≡◌, refl}
use mathlib.Core.List.{List, [], ◌∷◌, ◌++◌}
use lib.ListN.{length, take, drop}
use Rattle.base.specs.Lists.{written}
use Rattle.base.proofs.Areas.{written_after}
use Rattle.decimal.specs.Decimal.{decimal}

pub minus_written : (m : ℕ) (area one : List ℕ) {rest : List ℕ} → 1 + length (decimal m) ≤ length area → one ≡ written (45 ∷ []) area
    → rest ≡ written (decimal m) (take (length one - 1) (drop 1 one))
    → take 1 one ++ (rest ++ drop (length one - 1) (drop 1 one)) ≡ written (45 ∷ decimal m) area
minus_written m area one {rest} h e g = written_after area one (45 ∷ []) (decimal m) rest 1 e refl (omega arith) g
