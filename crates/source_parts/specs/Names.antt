-- Document 01, Corners of the Rust: a name
-- as it is written (`format_name`).
use Rattle.std.specs.Prelude.{ℕ, List, [], ◌∷◌, ◌++◌}
use Rattle.std.proofs.Math.Option.{Option, none, some}
use Rattle.pool.specs.Entries.{Name}

-- the given name after the family: `, ` stands before it
unfoldable pub given_part : Option (List ℕ) → List ℕ
given_part none = []
given_part (some given) = 44 ∷ 32 ∷ given

-- the family and what follows it, if there is a family
unfoldable pub family_part : Option (List ℕ) → Option (List ℕ) → List ℕ
family_part none given = []
family_part (some family) given = family ++ given_part given

-- "A present literal wins even if empty. Family with an empty given name gives `Ant, `." A given name alone gives nothing.
unfoldable pub name_by : Option (List ℕ) → Option (List ℕ) → Option (List ℕ) → List ℕ
name_by (some literal) family given = literal
name_by none family given = family_part family given

-- a name as it is written
unfoldable pub name_of : Name → List ℕ
name_of n = name_by n.literal n.family n.given
