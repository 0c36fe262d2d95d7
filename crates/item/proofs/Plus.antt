-- THEOREM `PlusPassed`: where the pieces of a group begin.
-- Assumes nothing.
use Prim.Native.Nat.{◌+◌}
use mathlib.Core.Path.{refl}
use borrow.Author.Tests.{eq-eqb, ne_eqb}
use Rattle.base.specs.Lists.{byte_at}
use Rattle.item.specs.Pieces.{plus_at, items_start, pieces_of}
use Rattle.item.specs.Facts.{PlusPassed}

pub plus_passed : PlusPassed
unfolding pieces_of items_start plus_at
plus_passed s p c h = (λ e. rw (eq-eqb (byte_at s (p + 1)) 43 e) refl, λ n. rw (ne_eqb (byte_at s (p + 1)) 43 n) refl)
