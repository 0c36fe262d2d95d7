-- Theorems: what the paper claims of the group at a bracket:
-- what an index as left gives there, and the order of its items' parts; proved in proofs/.
use Rattle.std.specs.Prelude.{ℕ, ◌+◌, ◌≤◌, ◌<◌, ◌≡◌, List, true, length}
use Rattle.base.specs.Sorted.{Each}
use Rattle.base.specs.InOrder.{present_of, InOrder}
use Rattle.item.specs.declared.Item.{Item}
use Rattle.item.specs.Facts.{parts_of}
use Rattle.item.specs.Group.{Group}
use Rattle.index.specs.Entries.{opens_at}
use Rattle.resolve.specs.Groups.{Found, group_at}
use Rattle.resolve.specs.Resolve.{group_as_run}
use Rattle.resolve.specs.Lefts.{Left}

-- At each unescaped `[` an index and a note "as earlier calls on that text left them" give what the unlimited scan gives.
abbrev pub BracketTrue : Type 0
BracketTrue =
    (text : List ℕ) (p note : ℕ) (index : List ℕ)
    → Left text index note → length text ≤ length index → opens_at text p ≡ true
    → group_as_run text p note index ≡ group_at text p

-- "the offsets of those present never falling": the parts of each item of a group lie between its bracket and its close, which is in
-- the text.
abbrev pub GroupInOrder : Type 0
GroupInOrder =
    (text : List ℕ) (p : ℕ) (g : Group) → group_at text p ≡ Found g
    → (g.at ≡ p) × (p < g.close) × (g.close < length text)
    × Each (λ (it : Item). InOrder (p + 1) g.close (present_of (parts_of it))) g.items
