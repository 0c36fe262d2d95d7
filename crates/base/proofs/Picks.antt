-- A choice by a test, and the same choice
-- by the opposite one.
use Prim.Native.Nat.{ℕ}
use mathlib.Core.Path.{◌≡◌, refl}
use mathlib.Core.Bool.{Bool, true, false, not}
use Rattle.base.specs.Pick.{pick}

pub pick_not : (t : Bool) (x y : ℕ) → pick t x y ≡ pick (not t) y x
pick_not true x y = refl
pick_not false x y = refl
