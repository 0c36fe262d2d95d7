-- Document 01, Corners of the Rust: trimming:
-- a stretch of a text without the white space at its ends.
use Rattle.std.specs.Prelude.{ℕ, ◌-◌, List, not, length}
use Rattle.base.specs.Lists.{part}
use Rattle.base.specs.First.{first}
use Rattle.base.specs.Last.{last_end}
use Rattle.white.specs.White.{is_white}

-- "Trims Unicode white space": the stretch from `a` to `e` begins, trimmed, at its first byte that is not white;
-- the later of `a` and `e` where it has none
unfoldable pub trim_start : List ℕ → ℕ → ℕ → ℕ
trim_start s a e = first (λ i. not (is_white s i)) (e - a) a

-- where the stretch from `a` to `e` ends, trimmed: after its last byte that is not white; `a` where it has none
unfoldable pub trim_end : List ℕ → ℕ → ℕ → ℕ
trim_end s a e = last_end (λ i. not (is_white s i)) (e - a) a a

-- a whole list of bytes, both ends trimmed
unfoldable pub trim : List ℕ → List ℕ
trim s = part s (trim_start s 0 (length s)) (trim_end s (trim_start s 0 (length s)) (length s))
