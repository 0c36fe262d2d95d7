-- The numbers at the front of a slice, as a match on the slice reads them,
-- and what follows of what follows.
use Prim.Native.Nat.{ℕ, ◌+◌, ◌*◌, ◌<◌, ◌≤◌}
use native.Mathlib.Omega.{arith}
use mathlib.Core.Path.{◌≡◌, refl}
use mathlib.Core.List.{List, [], ◌∷◌}
use lib.ListN.{length, get_or, drop}
use Rattle.std.proofs.lemmas.List.{drop-drop}
use Rattle.std.specs.Int.{w16, from_le_bytes}
use Rattle.replay_body.specs.Bodies.{two_bytes, three_bytes}

pub two_short : (s : List ℕ) → length s < 2 → 0 ≡ two_bytes s
unfolding two_bytes
two_short [] h = refl
two_short (a ∷ []) h = refl
two_short (a ∷ b ∷ s) h = absurd (omega arith)

pub two_are : (s : List ℕ) → 2 ≤ length s → from_le_bytes w16 (get_or s 0 0 ∷ get_or s 1 0 ∷ []) ≡ two_bytes s
unfolding two_bytes
two_are [] h = absurd (omega arith)
two_are (a ∷ []) h = absurd (omega arith)
two_are (a ∷ b ∷ s) h = omega arith

pub three_short : (s : List ℕ) → length s < 3 → 0 ≡ three_bytes s
unfolding three_bytes
three_short [] h = refl
three_short (a ∷ []) h = refl
three_short (a ∷ b ∷ []) h = refl
three_short (a ∷ b ∷ c ∷ s) h = absurd (omega arith)

pub three_are : (s : List ℕ) → 3 ≤ length s → from_le_bytes w16 (get_or s 0 0 ∷ get_or s 1 0 ∷ []) + 65536 * get_or s 2 0 ≡ three_bytes s
unfolding three_bytes
three_are [] h = absurd (omega arith)
three_are (a ∷ []) h = absurd (omega arith)
three_are (a ∷ b ∷ []) h = absurd (omega arith)
three_are (a ∷ b ∷ c ∷ s) h = omega arith

pub dropped_twice : (m n : ℕ) (s : List ℕ) → drop m (drop n s) ≡ drop (n + m) s
dropped_twice m n s = drop-drop m n s
