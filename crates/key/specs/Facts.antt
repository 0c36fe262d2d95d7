-- Theorems: what document 02 claims of where a key ends,
-- proved in proofs/.
use Rattle.std.specs.Prelude.{ℕ, ◌+◌, ◌-◌, ◌≤◌, ◌<◌, ◌≡◌, List, true, false}
use Rattle.base.specs.Lists.{byte_at}
use Rattle.key.specs.Keys.{is_first, is_mark, is_key, run_end, starts_key, key_end}

-- a key from `i` up to `e` in a run that ends at `r`: "the marks allowed inside a key cannot end it, so trailing ones are left off, except
-- `_`, which counts as a letter". All of them are off, and nothing else is.
pub record LeftOff (s : List ℕ) (i e r : ℕ) : Type 0 where
  pub last : is_first (byte_at s (e - 1)) ≡ true
  pub inside : (v : ℕ) → i ≤ v → v < e → is_key (byte_at s v) ≡ true
  pub after : (v : ℕ) → e ≤ v → v < r → is_mark (byte_at s v) ≡ true

abbrev pub KeyEnds : Type 0
KeyEnds = (s : List ℕ) (i : ℕ) → i < key_end s i → LeftOff s i (key_end s i) (run_end s (i + 1))

-- a key whose last byte was no mark is what it was: the whole run
abbrev pub OldKeys : Type 0
OldKeys = (s : List ℕ) (i : ℕ) → starts_key s i ≡ true → is_mark (byte_at s (run_end s (i + 1) - 1)) ≡ false → key_end s i ≡ run_end s (i + 1)
