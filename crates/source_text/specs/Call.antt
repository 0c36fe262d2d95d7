-- Document 01, Ten numbers: the source text call:
-- its refusals, its answer and its area.
use Rattle.std.specs.Prelude.{ℕ, List, not, length, ltb}
use Rattle.base.specs.Pick.{pick}
use Rattle.base.specs.Lists.{written}
use Rattle.pool.specs.Layout.{count_of, well_formed, entry_at}
use Rattle.source_text.specs.Text.{source_text_of}

-- number (0: accepted), "the bytes written", and the lent area at the end
pub record SourceAnswer : Type 0 where
  pub number : ℕ
  pub bytes : ℕ
  pub area : List ℕ

-- "A refusal returns its number .. and zeros, and touches nothing"
abbrev pub source_refused : ℕ → List ℕ → SourceAnswer
source_refused number area = record { number = number; bytes = 0; area = area }

-- the text `out` in its area: 10, "answer longer than its area"
unfoldable pub source_written : List ℕ → List ℕ → SourceAnswer
source_written out area =
    pick (ltb (length area) (length out)) (source_refused 10 area)
    (record { number = 0; bytes = length out; area = written out area })

-- "source text 7, 8, 10": 7 "pool breaks its layout", 8 "entry number N or more, or no pool"
unfoldable pub source_text_call : List ℕ → ℕ → List ℕ → SourceAnswer
source_text_call pool entry area =
    pick (not (well_formed pool)) (source_refused 7 area)
    (pick (not (ltb entry (count_of pool))) (source_refused 8 area)
    (source_written (source_text_of (entry_at pool entry)) area))
