-- Document 01, Corners of the Rust: the close of a bracket as run, with an index and a note, whatever they hold
-- (`citation_close_bracket`).
use Rattle.std.specs.Prelude.{ℕ, ◌-◌, List, Bool, true, false, ◌&&◌, not, length, get_or, eqb, leb, ltb, Option, Some, None}
use Rattle.base.specs.Pick.{pick}
use Rattle.base.specs.Lists.{is_at}
use Rattle.close.specs.Scan.{close_within}
use Rattle.index.specs.Built.{built_index}
unfoldable pub use Rattle.index.specs.Built.{index_after, records_after}
use Rattle.resolve.specs.declared.Look.{Look}
use Rattle.resolve.specs.declared.Look.TheVariants.{Known, Build}
use Rattle.resolve.specs.Groups.{GroupAnswer, judge}

-- "The note .. is 1 for built and all else for not built"
abbrev pub is_built : ℕ → Bool
is_built note = eqb note 1

-- "A stored place not after its bracket, outside the text or not at `]` counts as 0; otherwise the items between are judged.": the place `v`
-- that an index has for the bracket at `p`, as a close
unfoldable pub as_close : List ℕ → ℕ → ℕ → Option ℕ
as_close s p v = pick (ltb p v && is_at s v 93) (Some v) None

-- the close that an index has for the bracket at `p`
unfoldable pub stored_close : List ℕ → ℕ → List ℕ → Option ℕ
stored_close s p index = as_close s p (get_or index p 0)

-- "a look at 64 bytes from the bracket"
unfoldable pub short_look : List ℕ → ℕ → Option ℕ
short_look s p = close_within 64 s p

-- what the look at 64 bytes says
unfoldable pub shortened : List ℕ → ℕ → Option ℕ → Look
shortened s p (Some c) = Known (Some c)
shortened s p None = pick (leb (length s - p) 64) (Known None) Build

-- "Index if built; else a look at 64 bytes from the bracket; else no group when at most 64 are left; else build the index.": the close of the
-- bracket at `p`, none, or that the index is to be built
unfoldable pub look_of : List ℕ → ℕ → ℕ → List ℕ → Look
look_of s p note index = pick (is_built note) (Known (stored_close s p index)) (shortened s p (short_look s p))

-- a look that asks for a build
abbrev pub is_build : Look → Bool
is_build (Known d) = false
is_build Build = true

-- the close that a look gives, the index being as it is after a build, if one was wanted
unfoldable pub close_after : List ℕ → ℕ → List ℕ → Look → Option ℕ
close_after s p index (Known d) = d
close_after s p index Build = stored_close s p index

-- the close of the bracket at `p` as run
unfoldable pub close_as_run : List ℕ → ℕ → ℕ → List ℕ → Option ℕ
close_as_run s p note index = close_after s p (built_index s index) (look_of s p note index)

-- whether that builds the index; what the index held does not matter
unfoldable pub wants_build : List ℕ → ℕ → ℕ → Bool
wants_build s p note = not (is_built note) && is_build (shortened s p (short_look s p))

-- the group at `p` as run
unfoldable pub group_as_run : List ℕ → ℕ → ℕ → List ℕ → GroupAnswer
group_as_run s p note index = judge s p (close_as_run s p note index)

-- "a call that builds returns 1, any other the note it was given"
unfoldable pub note_after : Bool → ℕ → ℕ
note_after built note = pick built 1 note
