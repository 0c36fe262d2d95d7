-- What holds where nothing refuses an annotation before the sweep,
-- and how far the numbers of refusals go.
use Prim.Native.Nat.{ℕ, ◌≤◌}
use native.Mathlib.Omega.{arith}
use mathlib.Core.Path.{◌≡◌, refl}
use mathlib.Core.List.{List}
use mathlib.Core.Bool.{Bool, true, false, ◌||◌, not}
use lib.ListN.{length}
use lib.Dec.{ltb}
use borrow.Author.Tests.{ltb-false}
use Rattle.base.specs.Pick.{pick}
use Rattle.utf8.specs.Utf8.{too_long, utf8}
use Rattle.utf8.specs.Refusal.{after_text}
use Rattle.index.specs.Building.{Enough}
use Rattle.lookup.specs.Refusals.{too_few}
use Rattle.pool.specs.Layout.{well_formed}
use Rattle.annotation.specs.Refusal.{annotate_refusal}

-- Where nothing refuses an annotation before the sweep: a build can be had, the mode is one of the two, and the pool has its layout.
pub record Unrefused (s : List ℕ) (mode : ℕ) (pool : List ℕ) (n m : ℕ) : Type 0 where
  pub enough : Enough s n m
  pub low : mode ≤ 1
  pub layout : well_formed pool ≡ true

pub unrefused : (s : List ℕ) (mode : ℕ) (pool : List ℕ) (n m : ℕ) → annotate_refusal s mode pool n m ≡ 0 → Unrefused s mode pool n m
unfolding annotate_refusal after_text too_few
unrefused s mode pool n m q =
    let r = go (too_long s) (utf8 s) (ltb 1 mode) (well_formed pool) (ltb n (length s)) (ltb m (length s)) q in
    record {
      enough =
          record { short = ltb-false 65535 (length s) r.0; wide = ltb-false n (length s) r.3; long = ltb-false m (length s) r.4 };
      low = ltb-false 1 mode r.1;
      layout = r.2;
    }
  where
    go : (a b c d e f : Bool) → pick {A = ℕ} a 1 (pick b (pick c 6 (pick (not d) 7 (pick (e || f) 9 0))) 2) ≡ 0
        → (a ≡ false) × (c ≡ false) × (d ≡ true) × (e ≡ false) × (f ≡ false)
    go true b c d e f q = absurd (omega arith)
    go false false c d e f q = absurd (omega arith)
    go false true true d e f q = absurd (omega arith)
    go false true false false e f q = absurd (omega arith)
    go false true false true true f q = absurd (omega arith)
    go false true false true false true q = absurd (omega arith)
    go false true false true false false q = (refl, refl, refl, refl, refl)
