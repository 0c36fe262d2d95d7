-- The check of an entry and of the pool,
-- in the form of the goals.
use Prim.Native.Nat.{ℕ, zero, suc, ◌+◌, ◌-◌, ◌<◌}
use native.Mathlib.Omega.{arith}
use mathlib.Core.Path.{◌≡◌, refl, sym, ◌∙◌}
use mathlib.Core.List.{List}
use mathlib.Core.Bool.{Bool, true, false, ◌&&◌, true≢false}
use lib.ListN.{length}
use borrow.Author.Tests.{eq-eqb, le-leb}
use Rattle.std.specs.Prelude.{Option, None, Some, IfSome}
use Rattle.std.specs.Option.{unwrap_or, is_some}
use Rattle.base.proofs.Bools.{and_left}
use Rattle.pool.specs.Fields.{Field, follows, content_good, fields_good, good_from}
use Rattle.pool.specs.Layout.{end_of, entries_good}
use Rattle.pool.specs.Steps.{has_field, Split, good_rest, pair_good}
use Rattle.pool.proofs.FieldLaws.{fields_end, fill_next, fill_end}
use Rattle.pool.proofs.PartLaws.{split_shorter, good_next}

-- a field that may follow has a tag above 0
pub follows_some : (last t : ℕ) → follows last t ≡ true → 0 < t
unfolding follows
follows_some last zero h = absurd (true≢false (sym h))
follows_some last (suc t) h = omega arith

-- an entry, a field at a time
module _ (s : List ℕ) (o : Option ℕ) where
  pub entry_next : (f : Field) (r : List ℕ) {t w : Bool} → w ≡ good_rest (unwrap_or o 0) s → Split s f r
      → t ≡ (follows (unwrap_or o 0) f.tag && content_good f.tag f.bytes) → t ≡ true → w ≡ good_rest f.tag r
  entry_next f r g x e q = g ∙ good_next s f r x (unwrap_or o 0) ∙ rw (← e, q) refl

  pub entry_tag : (f : Field) {t : Bool} → t ≡ (follows (unwrap_or o 0) f.tag && content_good f.tag f.bytes) → t ≡ true → 0 < f.tag
  entry_tag f e q = follows_some (unwrap_or o 0) f.tag (and_left _ (content_good f.tag f.bytes) (sym e ∙ q))

  pub entry_stop : (f : Field) (r : List ℕ) {t w : Bool} → w ≡ good_rest (unwrap_or o 0) s → Split s f r
      → t ≡ (follows (unwrap_or o 0) f.tag && content_good f.tag f.bytes) → t ≡ false → false ≡ w
  entry_stop f r g x e q = sym (g ∙ good_next s f r x (unwrap_or o 0) ∙ rw (← e, q) refl)

  pub entry_broken : {w : Bool} → w ≡ good_rest (unwrap_or o 0) s → 0 < length s → has_field s ≡ false → false ≡ w
  unfolding good_from has_field
  entry_broken g h e = sym (g ∙ rw (fill_next s 0 (length s) h, e) refl)

pub entry_end : (s : List ℕ) (o : Option ℕ) {w : Bool} → IfSome o (λ t. 0 < t) → w ≡ good_rest (unwrap_or o 0) s → length s ≡ 0 → is_some o ≡ w
unfolding good_from fields_good
entry_end s None p g h = sym (g ∙ rw (fields_end s 0 (length s) (omega arith), fill_end s 0 (length s) (omega arith), eq-eqb 0 (length s) (sym h)) refl)
entry_end s (Some t) p g h =
    sym (g ∙ rw (fields_end s 0 (length s) (omega arith), fill_end s 0 (length s) (omega arith), eq-eqb 0 (length s) (sym h), le-leb 1 t (omega arith)) refl)

pub ruleset entry_laws = (split_shorter, entry_next, entry_tag, entry_stop, entry_broken, entry_end)

-- the pairs
module _ (s : List ℕ) (i at : ℕ) where
  pub entries_next : (n : ℕ) {k : ℕ} {r w : Bool} → w ≡ entries_good (n - i) s i at → i < n → r ≡ pair_good s i at → r ≡ true → k ≡ end_of s i
      → w ≡ entries_good (n - (i + 1)) s (i + 1) k
  unfolding entries_good pair_good
  entries_next n g h f t e = let p : n - i ≡ suc (n - (i + 1)) = omega arith in (rw p at g) ∙ rw (← f, t, e) refl
