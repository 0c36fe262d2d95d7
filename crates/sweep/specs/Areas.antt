-- Follows the code; nothing to believe: areas that are written
-- from some place on.
use Rattle.std.specs.Prelude.{ℕ, ◌+◌, List, ◌++◌, length, take, drop}

-- an area after `out` was written from place `n` on
unfoldable pub written_at : {A : Type 0} → ℕ → List A → List A → List A
written_at n out area = take n area ++ (out ++ drop (n + length out) area)
