-- Follows the code; nothing to believe: what the code says of a bracket: the group at it by its close and its count,
-- and where a close lies.
use Rattle.std.specs.Prelude.{ℕ, ◌<◌, ◌≡◌, List, length, Option, Some, None}
use Rattle.base.specs.Lists.{byte_at}
use Rattle.resolve.specs.declared.Look.{Look}
use Rattle.resolve.specs.declared.Look.TheVariants.{Known, Build}
use Rattle.resolve.specs.declared.Group.{Group}
use Rattle.resolve.specs.Groups.{GroupAnswer, Found, NoGroup}

-- a group by the place of its close and the count of its items
unfoldable pub matched : GroupAnswer → Option Group
matched (Found g) = Some (record { close = g.close; count = length g.items })
matched NoGroup = None

-- a close that lies after its bracket at `p`, in the text, at a `]`
abbrev pub Inside : List ℕ → ℕ → Option ℕ → Type 0
Inside s p (Some c) = (p < c) × (c < length s) × (byte_at s c ≡ 93)
Inside s p None = Unit {0}

-- the close that a look gives lies after its bracket and in the text
abbrev pub LookInside : List ℕ → ℕ → Look → Type 0
LookInside s p (Known d) = Inside s p d
LookInside s p Build = Unit {0}
