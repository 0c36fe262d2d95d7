-- Theorems: what the look at 64 bytes tells of the unlimited scan,
-- where it finds a close and where it finds none.
use Rattle.std.specs.Prelude.{ℕ, ◌-◌, ◌≤◌, ◌≡◌, List, length, Some, None}
use Rattle.close.specs.Scan.{close_within, close_of}

-- THEOREM: the short look agrees with the unlimited scan where it finds a close
abbrev pub ShortAgrees : Type 0
ShortAgrees = (s : List ℕ) (p k : ℕ) → close_within 64 s p ≡ Some k → close_of s p ≡ Some k

-- THEOREM: where it finds none and at most 64 bytes are left, there is none
abbrev pub ShortNone : Type 0
ShortNone = (s : List ℕ) (p : ℕ) → close_within 64 s p ≡ None → length s - p ≤ 64 → close_of s p ≡ None
