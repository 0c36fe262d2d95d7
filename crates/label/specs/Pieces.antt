-- Follows the code; nothing to believe: a label by its pieces,
-- a year alone, or an author, a space and a year.
use Rattle.std.specs.Prelude.{ℕ, List, ◌∷◌, ◌++◌}
use Rattle.source.specs.Years.{year_bytes}
use Rattle.label.specs.declared.Label.{Label}
use Rattle.label.specs.declared.Label.TheVariants.{Piece, Named}

-- the bytes of a label
abbrev pub label_bytes : Label → List ℕ
label_bytes (Piece piece) = year_bytes piece
label_bytes (Named author piece) = author.now ++ (32 ∷ year_bytes piece)
