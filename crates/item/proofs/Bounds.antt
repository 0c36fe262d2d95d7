-- Each part of a good item ends by the end of its stretch:
-- what a caller's casts ask for.
use Prim.Native.Nat.{ℕ, ◌+◌, ◌≤◌}
use native.Mathlib.Omega.{arith}
use mathlib.Core.Path.{◌≡◌, refl, subst}
use mathlib.Core.List.{List}
use mathlib.Core.Bool.{Bool, true, false}
use lib.Dec.{ltb}
use Rattle.std.specs.Prelude.{Some, None}
use Rattle.base.specs.Pick.{pick}
use Rattle.base.specs.Sorted.{Each}
use Rattle.base.specs.declared.Span.{Span}
use Rattle.base.proofs.Spans.{span_there}
use Rattle.base.proofs.Orders.{Placed, all_by}
use Rattle.text.specs.Trim.{trim_start, trim_end}
use Rattle.key.specs.Keys.{key_end}
use Rattle.locator.proofs.Laws.{value_missing, suffix_missing}
use Rattle.item.specs.declared.Item.{Item}
use Rattle.item.specs.Items.{winner, prefix_end, locator_start, item_at, item_in, item_of}
use Rattle.item.specs.Facts.{parts_of}
use Rattle.item.proofs.Parts.{item_in_order}

parts_placed : (s : List ℕ) (a e i m : ℕ) → Each Placed (parts_of (item_at s a e i m))
unfolding parts_of item_at
parts_placed s a e i m =
    let k = locator_start s m e in
    (span_there a (prefix_end s a i), (span_there (i + 1) m, (span_there k e, (value_missing s k e refl, (suffix_missing s k e refl, tt)))))

-- a good item is the one of the `@` that wins
in_is : (s : List ℕ) (a e : ℕ) (it : Item) → item_in s a e ≡ Some it → item_at s a e (winner s a e) (key_end s (winner s a e + 1)) ≡ it
unfolding item_in
in_is s a e it = go (ltb (winner s a e) e) (item_at s a e (winner s a e) (key_end s (winner s a e + 1)))
  where
    go : (t : Bool) (at : Item) → pick t (Some at) None ≡ Some it → at ≡ it
    go true at h = cc
    go false at h = let y : ◌≡◌ {A = ℕ} 0 1 = cc in absurd (omega (arith, y))

good_placed : (s : List ℕ) (a e : ℕ) (it : Item) → item_of s a e ≡ Some it → Each Placed (parts_of it)
unfolding item_of
good_placed s a e it h =
    subst (λ (z : Item). Each Placed (parts_of z)) (in_is s (trim_start s a e) (trim_end s (trim_start s a e) e) it h) (parts_placed s _ _ _ _)

pub item_within : (s : List ℕ) (a e : ℕ) (it : Item) → item_of s a e ≡ Some it → Each (λ (p : Span). p.at + p.len ≤ e) (parts_of it)
item_within s a e it h = all_by (parts_of it) a e (good_placed s a e it h) (item_in_order s a e it h)
