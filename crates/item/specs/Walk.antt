-- Follows the code; nothing to believe: the walk over the pieces of a stretch,
-- by those that are left.
use Rattle.std.specs.Prelude.{ℕ, List, [], Option, Some, None}
use Rattle.item.specs.declared.GroupPieces.{GroupPieces}
use Rattle.item.specs.declared.Piece.{Piece}
use Rattle.item.specs.Pieces.{Stretch, stretch, pieces}

-- a piece of the text, as a stretch
abbrev pub stretch_of : Piece → Stretch
stretch_of p = stretch p.from p.to

-- the pieces from the next one on
abbrev pub pieces_after : List ℕ → Option ℕ → ℕ → List Stretch
pieces_after s (Some a) e = pieces s a e
pieces_after s None e = []

-- the pieces that are left
abbrev pub pieces_left : GroupPieces → List Stretch
pieces_left p = pieces_after p.text.now p.next p.end
