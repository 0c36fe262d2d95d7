-- Follows the code; nothing to believe: what the bytes from a stored call on say:
-- its numbers, and where its parts begin.
use Rattle.std.specs.Prelude.{ℕ, ◌+◌, ◌*◌, ◌≡◌, List, [], ◌∷◌, take, drop}
use Rattle.records.specs.Widths.{item_width, group_width}
use Rattle.replay_body.specs.Bodies.{number_at}

-- the numbers of a look-up's answer
abbrev pub LookUpNumbers : List ℕ → ℕ → List ℕ → Type 0
LookUpNumbers part number values = (number ≡ number_at part 2) × (values ≡ number_at part 4 ∷ number_at part 6 ∷ [])

-- how many bytes a look-up has
abbrev pub look_up_length : List ℕ → ℕ
look_up_length part = 10 + 24 * number_at part 6

-- the numbers of an annotation's answer
abbrev pub AnnotationNumbers : List ℕ → ℕ → List ℕ → Type 0
AnnotationNumbers part number values =
    (number ≡ number_at part 4) × (values ≡ number_at part 6 ∷ number_at part 8 ∷ number_at part 10 ∷ number_at part 12 ∷ [])

-- where an annotation's item records begin: after 16 bytes of numbers and the group records
abbrev pub items_at : List ℕ → ℕ
items_at part = 16 + 2 * group_width * number_at part 6

-- where an annotation's reference records begin
abbrev pub references_at : List ℕ → ℕ
references_at part = items_at part + 2 * item_width * number_at part 8

-- where an annotation's label bytes begin
abbrev pub labels_at : List ℕ → ℕ
labels_at part = references_at part + 2 * number_at part 10

-- where an annotation's pool begins
abbrev pub pool_at : List ℕ → ℕ
pool_at part = labels_at part + number_at part 12

-- the bytes of an annotation's pool
abbrev pub stored_pool : List ℕ → List ℕ
stored_pool part = take (number_at part 2) (drop (pool_at part) part)

-- how many bytes an annotation has
abbrev pub annotation_length : List ℕ → ℕ
annotation_length part = pool_at part + number_at part 2
