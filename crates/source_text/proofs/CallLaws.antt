-- The source text call,
-- by its refusals and its answer.
use Prim.Native.Nat.{ℕ, ◌≤◌, ◌<◌, min}
use native.Mathlib.Omega.{arith}
use mathlib.Core.Path.{◌≡◌, refl, ◌∙◌}
use mathlib.Core.List.{List}
use mathlib.Core.Bool.{true, false}
use lib.ListN.{length}
use borrow.Author.Tests.{lt-ltb, le-ltb}
use Rattle.std.specs.Prelude.{Result, Ok, Err}
use Rattle.std.specs.Result.{IsErrAnd}
use Rattle.base.specs.declared.refusal.Refusal.{Refusal}
use Rattle.base.specs.declared.refusal.Refusal.TheVariants.{PoolBroken}
use Rattle.base.specs.Lists.{written}
use Rattle.pool.specs.Fields.{Field}
use Rattle.pool.specs.Entries.{entry_of}
use Rattle.pool.specs.Layout.{count_of, well_formed, entry_at}
use Rattle.source_text.specs.Text.{source_text_of}
use Rattle.source_text.specs.Call.{source_refused, source_written, source_text_call}

-- the refusal of a broken pool, as it is handed on
pub broken_result : (r : Result ℕ Refusal) {e : Refusal} → e ≡ PoolBroken → IsErrAnd r (λ x. x ≡ e) → r ≡ Err PoolBroken
broken_result (Ok x) p q = absurd q
broken_result (Err x) p q = rw (q, p) refl

module _ (p : List ℕ) (i : ℕ) (area : List ℕ) where
  -- 7
  pub broken_call : well_formed p ≡ false → source_text_call p i area ≡ source_refused 7 area
  unfolding source_text_call
  broken_call e = rw e refl

  module _ (b : List ℕ) (w : well_formed b ≡ true) (q : b ≡ p) (n : ℕ) (c : n ≡ count_of b) where
    -- 8
    pub past_call : n ≤ i → source_text_call p i area ≡ source_refused 8 area
    unfolding source_text_call
    past_call h = rw (← q, w, le-ltb i (count_of b) (omega arith)) refl

    module _ (h : i < n) (fs : List Field) (e : entry_of fs ≡ entry_at b i) (k : ℕ) (l : k ≡ min (length (source_text_of (entry_of fs))) 18446744073709551615) where
      there : source_text_call p i area ≡ source_written (source_text_of (entry_of fs)) area
      unfolding source_text_call
      there = rw (← q, w, lt-ltb i (count_of b) (omega arith), e) refl

      -- 10
      pub small_call : length area < k → source_text_call p i area ≡ source_refused 10 area
      unfolding source_written
      small_call s = there ∙ rw (lt-ltb (length area) (length (source_text_of (entry_of fs))) (omega arith)) refl

      -- accepted
      pub fits_call : k ≤ length area → length area < 18446744073709551615
          → source_text_call p i area
          ≡ record { number = 0; bytes = length (source_text_of (entry_of fs)); area = written (source_text_of (entry_of fs)) area }
      unfolding source_written
      fits_call s m = there ∙ rw (le-ltb (length area) (length (source_text_of (entry_of fs))) (omega arith)) refl
