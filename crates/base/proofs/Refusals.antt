-- The number of a refusal, and the refusal of a number:
-- each is read back from the other.
use Prim.Native.Nat.{ℕ, zero, suc, ◌≤◌}
use native.Mathlib.Omega.{arith}
use mathlib.Core.Path.{◌≡◌, refl, ◌∙◌}
use Rattle.std.specs.Prelude.{Result, Ok, Err}
use Rattle.base.specs.declared.refusal.Refusal.{Refusal}
use Rattle.base.specs.declared.refusal.Refusal.TheVariants.{TextTooLong, TextNotUtf8, NoBracket, EscapedBracket, NoGroup, UnknownMode, PoolBroken, NoEntry, IndexTooShort, NoRoom}
use Rattle.base.specs.Checks.{refusal_number}
use Rattle.base.specs.Refusals.{number_of, refusal_of, answered}

-- no refusal has the number 0
pub number_some : (e : Refusal) → number_of e ≡ 0 → ⊥
number_some TextTooLong z = omega (arith, z)
number_some TextNotUtf8 z = omega (arith, z)
number_some NoBracket z = omega (arith, z)
number_some EscapedBracket z = omega (arith, z)
number_some NoGroup z = omega (arith, z)
number_some UnknownMode z = omega (arith, z)
number_some PoolBroken z = omega (arith, z)
number_some NoEntry z = omega (arith, z)
number_some IndexTooShort z = omega (arith, z)
number_some NoRoom z = omega (arith, z)

-- a refused call with its number is the answer by that number
pub answered_err : {A : Type 0} (e : Refusal) (x : A) → Err e ≡ answered (number_of e) x
unfolding refusal_of
answered_err TextTooLong x = refl
answered_err TextNotUtf8 x = refl
answered_err NoBracket x = refl
answered_err EscapedBracket x = refl
answered_err NoGroup x = refl
answered_err UnknownMode x = refl
answered_err PoolBroken x = refl
answered_err NoEntry x = refl
answered_err IndexTooShort x = refl
answered_err NoRoom x = refl

-- what a check `r` says by its number decides the answer
module _ {A B : Type 0} {n : ℕ} {r : Result B Refusal} (q : refusal_number r ≡ n) where
  pub refused_by : {e : Refusal} (x : A) → r ≡ Err e → Err e ≡ answered n x
  refused_by {e} x h = answered_err e x ∙ rw (← q, h)

  pub accepted_by : {b : B} (x : A) → r ≡ Ok b → Ok x ≡ answered n x
  accepted_by x h = rw (← q, h)

-- the refusal of a number has that number
pub number_back : (n : ℕ) → (n ≡ 0 → ⊥) → n ≤ 10 → number_of (refusal_of n) ≡ n
unfolding refusal_of
number_back zero z h = absurd (z refl)
number_back (suc zero) z h = refl
number_back (suc (suc zero)) z h = refl
number_back (suc (suc (suc zero))) z h = refl
number_back (suc (suc (suc (suc zero)))) z h = refl
number_back (suc (suc (suc (suc (suc zero))))) z h = refl
number_back (suc (suc (suc (suc (suc (suc zero)))))) z h = refl
number_back (suc (suc (suc (suc (suc (suc (suc zero))))))) z h = refl
number_back (suc (suc (suc (suc (suc (suc (suc (suc zero)))))))) z h = refl
number_back (suc (suc (suc (suc (suc (suc (suc (suc (suc zero))))))))) z h = refl
number_back (suc (suc (suc (suc (suc (suc (suc (suc (suc (suc zero)))))))))) z h = refl
number_back (suc (suc (suc (suc (suc (suc (suc (suc (suc (suc (suc n))))))))))) z h = absurd (omega arith)
