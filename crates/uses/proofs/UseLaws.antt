-- Numbers and uses, in the form of the goals:
-- by the last record with the same key, or by none.
use Prim.Native.Nat.{ℕ, ◌+◌, ◌%◌, ◌<◌}
use native.Mathlib.Omega.{arith}
use mathlib.Core.Path.{◌≡◌, refl, ◌∙◌}
use mathlib.Core.List.{List}
use mathlib.Core.Bool.{Bool}
use borrow.Author.Tests.{lt-ltb, le-ltb}
use Rattle.base.specs.Pick.{pick}
use Rattle.base.specs.LastPlace.{last}
use Rattle.records.specs.Fields.{item_field}
use Rattle.uses.specs.Uses.{last_use, number_in, use_in, sources_in}
use Rattle.uses.specs.Uses.{Counts}
use Rattle.base.specs.Found.{Found}
use Rattle.records.proofs.Founds.{found_last}
use Rattle.std.specs.Prelude.{Option}
use Rattle.std.specs.Option.{unwrap_or}
use Rattle.records.specs.Widths.{item_number, item_use}

-- the last record before `k`, as the search answers it
pub found_before : (f : ℕ → Bool) (k : ℕ) (r : Option ℕ) → ((d : ℕ) → unwrap_or r d ≡ last f k d) → Found k (last f k k) r
found_before f k r h = found_last f k k r h (omega arith)

-- the number and the use where the key was used before, and where it was not
module _ (text items : List ℕ) (pooled : Bool) (sources k : ℕ) where
  pub counts_again : {j n u v : ℕ} → j ≡ last_use text items k → j < k → n ≡ item_field items j item_number → u ≡ item_field items j item_use
      → v ≡ pick pooled ((u + 1) % 65536) 0 → Counts text items pooled sources k (record { number = n; use_index = v; sources = sources })
  unfolding number_in use_in sources_in
  counts_again {j} p h q r e = record {
    number = q ∙ rw (← p, lt-ltb j k h) refl;
    use_as = e ∙ rw (← p, lt-ltb j k h, r) refl;
    sources = rw (← p, lt-ltb j k h) refl;
    more = omega arith;
  }

  pub counts_first : {v : ℕ} → last_use text items k ≡ k → v ≡ pick pooled ((0 + 1) % 65536) 0
      → Counts text items pooled sources k (record { number = (sources + 1) % 65536; use_index = v; sources = sources + 1 })
  unfolding number_in use_in sources_in
  counts_first p e = record {
    number = rw (p, le-ltb k k (omega arith)) refl;
    use_as = e ∙ rw (p, le-ltb k k (omega arith)) refl;
    sources = rw (p, le-ltb k k (omega arith)) refl;
    more = omega arith;
  }
