-- Document 01, Ten numbers:
-- what refuses an annotation before the sweep.
use Rattle.std.specs.Prelude.{ℕ, List, not, ltb}
use Rattle.base.specs.Pick.{pick}
use Rattle.utf8.specs.Refusal.{after_text}
use Rattle.lookup.specs.Refusals.{too_few}
use Rattle.pool.specs.Layout.{well_formed}

-- The refusals before the sweep, "annotation 1, 2, 6, 7, 9"; 0 where there is none. 6: "mode not 0 or 1". 7: "pool breaks its layout".
-- 9: "index or bracket records fewer than text bytes", `n` and `m` of them being lent.
unfoldable pub annotate_refusal : List ℕ → ℕ → List ℕ → ℕ → ℕ → ℕ
annotate_refusal text mode pool n m =
    after_text text
    (pick (ltb 1 mode) 6
    (pick (not (well_formed pool)) 7
    (pick (too_few text n m) 9
    0)))
