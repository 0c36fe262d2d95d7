-- THEOREM `GroupInOrder`: the parts of each item of a group
-- lie between its bracket and its close, in their order.
use Prim.Native.Nat.{ℕ, ◌+◌, ◌<◌}
use mathlib.Core.Path.{◌≡◌, refl, subst}
use lib.ListN.{length}
use Rattle.std.specs.Prelude.{Option, Some, None}
use Rattle.base.specs.Sorted.{Each}
use Rattle.base.specs.InOrder.{present_of, InOrder}
use Rattle.close.specs.Scan.{close_of}
use Rattle.close.proofs.Laws.{close_there}
use Rattle.item.specs.declared.Item.{Item}
use Rattle.item.specs.Facts.{parts_of}
use Rattle.item.proofs.Groups.{items_in_order}
use Rattle.resolve.specs.Groups.{GroupAnswer, Found, group_at}
use Rattle.item.specs.Group.{Group, group_of}
use Rattle.resolve.specs.Facts.{GroupInOrder}
use Rattle.resolve.proofs.Judges.{Judges, cites, no_close, follows, bad_item, judges}

pub group_in_order : GroupInOrder
unfolding group_at group_of
group_in_order s p g = go (close_of s p) refl (judges s p (close_of s p))
  where
    Says : Group → Type 0
    Says g =
        (g.at ≡ p) × (p < g.close) × (g.close < length s)
        × Each (λ (it : Item). InOrder (p + 1) g.close (present_of (parts_of it))) g.items

    go : (d : Option ℕ) → close_of s p ≡ d → {a : GroupAnswer} → Judges s p d a → a ≡ Found g → Says g
    go (Some c) e (cites _ k) h =
        let k = close_there s p c e in
        let q : group_of s p c ≡ g = cc in
        subst (λ (x : Group). Says x) q (refl, k.0, k.1, items_in_order s p c k.0 k.2)
    go (Some c) e (follows _ q) h = absurd (cc)
    go (Some c) e (bad_item _ n q b j) h = absurd (cc)
    go None e no_close h = absurd (cc)
