-- The numbers of a refused answer:
-- its first and last set in zeros.
use Prim.Native.Nat.{ℕ, zero, suc, ◌-◌, ◌≤◌}
use native.Mathlib.Omega.{arith}
use mathlib.Core.Path.{◌≡◌, refl, ap}
use mathlib.Core.List.{List, [], ◌∷◌, ◌++◌}
use lib.ListN.{replicate, set}

last_set : (k last : ℕ) → set (replicate (suc k) 0) k last ≡ replicate k 0 ++ (last ∷ [])
last_set zero last = refl
last_set (suc k) last = ap (λ (xs : List ℕ). 0 ∷ xs) (last_set k last)

pub refused : (n number last : ℕ) → 2 ≤ n → set (set (replicate n 0) 0 number) (n - 1) last ≡ number ∷ (replicate (n - 2) 0 ++ (last ∷ []))
refused zero number last h = absurd (omega arith)
refused (suc zero) number last h = absurd (omega arith)
refused (suc (suc k)) number last h =
    let p : suc (suc k) - 1 ≡ suc k = omega arith in
    let q : suc (suc k) - 2 ≡ k = omega arith in
    rw (p, q) (ap (λ (xs : List ℕ). number ∷ xs) (last_set k last))
