-- Follows the code; nothing to believe: the areas of a replayed session
-- before its first call.
use Rattle.std.specs.Prelude.{ℕ, ◌≡◌, ◌*◌, replicate, vec_len}
use Rattle.records.specs.Widths.{item_width, group_width}
use Rattle.replay_body.specs.declared.areas.Areas.{Areas}

-- room for an index of so many places, for so many item and group records, as many references as groups, and 66,000 label bytes
abbrev pub HasRoom : ℕ → ℕ → ℕ → Areas → Type 0
HasRoom index items groups a =
    (vec_len a.index ≡ index)
    × (vec_len a.items ≡ item_width * items)
    × (vec_len a.groups ≡ group_width * groups)
    × (vec_len a.references ≡ groups)
    × (vec_len a.labels ≡ 66000)

-- the areas of an answer hold what no call wrote
abbrev pub IsCleared : Areas → Type 0
IsCleared a =
    (a.items.items ≡ replicate (vec_len a.items) 43690)
    × (a.groups.items ≡ replicate (vec_len a.groups) 43690)
    × (a.references.items ≡ replicate (vec_len a.references) 43690)
    × (a.labels.items ≡ replicate (vec_len a.labels) 170)
