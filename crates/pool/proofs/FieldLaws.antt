-- The fields of a stretch, one at a time: more turns than bytes change nothing,
-- so what is left is again the fields of a stretch.
use Prim.Native.Nat.{ℕ, zero, suc, ◌+◌, ◌-◌, ◌≤◌, ◌<◌}
use native.Mathlib.Omega.{arith}
use mathlib.Core.Path.{◌≡◌, refl, ◌∙◌}
use mathlib.Core.List.{List, [], ◌∷◌}
use mathlib.Core.Bool.{◌&&◌}
use lib.Dec.{eqb, leb}
use borrow.Author.Tests.{lt-ltb, le-ltb}
use Rattle.pool.specs.Fields.{field_end, field_at, fields_in, fill_in, fields_of, fill}

-- a field has three bytes or more
pub field_long : (s : List ℕ) (at : ℕ) → at + 3 ≤ field_end s at
unfolding field_end
field_long s at = omega arith

fields_enough : (n m : ℕ) (s : List ℕ) (at e : ℕ) → e - at ≤ n → e - at ≤ m → fields_in n s at e ≡ fields_in m s at e
unfolding fields_in
fields_enough zero zero s at e h g = refl
fields_enough zero (suc m) s at e h g = rw (le-ltb at e (omega arith)) refl
fields_enough (suc n) zero s at e h g = rw (le-ltb at e (omega arith)) refl
fields_enough (suc n) (suc m) s at e h g =
    let l = field_long s at in
    rw (fields_enough n m s (field_end s at) e (omega arith) (omega arith)) refl

fill_enough : (n m : ℕ) (s : List ℕ) (at e : ℕ) → e - at ≤ n → e - at ≤ m → fill_in n s at e ≡ fill_in m s at e
unfolding fill_in
fill_enough zero zero s at e h g = refl
fill_enough zero (suc m) s at e h g = rw (le-ltb at e (omega arith)) refl
fill_enough (suc n) zero s at e h g = rw (le-ltb at e (omega arith)) refl
fill_enough (suc n) (suc m) s at e h g =
    let l = field_long s at in
    rw (fill_enough n m s (field_end s at) e (omega arith) (omega arith)) refl

module _ (s : List ℕ) (at e : ℕ) where
  -- a field stands at `at`
  pub fields_next : at < e → fields_of s at e ≡ field_at s at ∷ fields_of s (field_end s at) e
  unfolding fields_of fields_in
  fields_next h =
      let l = field_long s at in
      let p : fields_in (e - at) s at e ≡ fields_in (suc (e - at)) s at e = fields_enough (e - at) (suc (e - at)) s at e (omega arith) (omega arith) in
      p ∙ rw (lt-ltb at e h, fields_enough (e - at) (e - field_end s at) s (field_end s at) e (omega arith) (omega arith)) refl

  pub fill_next : at < e → fill s at e ≡ (leb (at + 3) e && leb (field_end s at) e && fill s (field_end s at) e)
  unfolding fill fill_in
  fill_next h =
      let l = field_long s at in
      let p : fill_in (e - at) s at e ≡ fill_in (suc (e - at)) s at e = fill_enough (e - at) (suc (e - at)) s at e (omega arith) (omega arith) in
      p ∙ rw (lt-ltb at e h, fill_enough (e - at) (e - field_end s at) s (field_end s at) e (omega arith) (omega arith)) refl

  -- none does
  pub fields_end : e ≤ at → fields_of s at e ≡ []
  unfolding fields_of fields_in
  fields_end h = let p : e - at ≡ 0 = omega arith in rw p refl

  pub fill_end : e ≤ at → fill s at e ≡ eqb at e
  unfolding fill fill_in
  fill_end h = let p : e - at ≡ 0 = omega arith in rw p refl
