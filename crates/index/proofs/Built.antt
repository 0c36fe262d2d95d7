-- What a build leaves in the index area:
-- as many numbers as before, the first of them the index of the text.
use Prim.Native.Nat.{ℕ, ◌+◌, ◌≤◌, ◌<◌}
use native.Mathlib.Omega.{arith}
use mathlib.Core.Path.{◌≡◌, sym, ◌∙◌, ap}
use mathlib.Core.List.{List}
use lib.ListN.{length, get_or, take, length-map}
use Rattle.base.specs.Lists.{up_from}
use Rattle.base.proofs.Ups.{up_length, up_at}
use Rattle.base.proofs.Areas.{written_length, written_front}
use Rattle.index.specs.Entries.{index_at, index_of}
use Rattle.index.specs.Built.{built_index}

pub length_index : (s : List ℕ) → length (index_of s) ≡ length s
unfolding index_of
length_index s = length-map (up_from 0 (length s)) (index_at s) ∙ up_length 0 (length s)

pub at_index : (s : List ℕ) (p : ℕ) → p < length s → get_or (index_of s) p 0 ≡ index_at s p
unfolding index_of
at_index s p h = up_at (index_at s) 0 (length s) p h ∙ ap (index_at s) (let e : 0 + p ≡ p = omega arith in e)

-- a build leaves the index as long as it was, and its front is the index of the text
pub length_built : (text index : List ℕ) → length text ≤ length index → length (built_index text index) ≡ length index
unfolding built_index
length_built text index h = written_length (index_of text) index (omega (arith, length_index text))

pub take_built : (text index : List ℕ) → take (length text) (built_index text index) ≡ index_of text
unfolding built_index
take_built text index = written_front (index_of text) index (length text) (sym (length_index text))
