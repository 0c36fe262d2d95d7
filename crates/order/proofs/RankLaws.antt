-- Definitions by number, and the bytes that their sources are ordered by,
-- in the form of the goals.
use Prim.Native.Nat.{ℕ, ◌-◌, ◌<◌}
use native.Mathlib.Omega.{arith}
use mathlib.Core.Path.{◌≡◌, refl, ◌∙◌}
use mathlib.Core.List.{List}
use mathlib.Core.Option.{get_or}
use Rattle.std.specs.Prelude.{Option, Some, None}
use Rattle.std.specs.Borrow.{Bor}
use Rattle.base.specs.First.{first}
use Rattle.base.proofs.Searches.{first_by}
use Rattle.base.specs.Lent.{lent}
use Rattle.definition.specs.declared.defined.AuthorYear.{AuthorYear}
use Rattle.definition.specs.declared.defined.Definition.{Definition}
use Rattle.definition.specs.Parts.{Gives}
use Rattle.definition.specs.Defs.{def_author, def_year}
use Rattle.definition.specs.Defined.{defined_as, found_in, definition_number, definition_at, key_by}
use Rattle.records.specs.Records.{key_in}
use Rattle.records.specs.Bounds.{record_bound}
use Rattle.uses.specs.Uses.{used_at}
use Rattle.order.specs.References.{has_number, first_with, source_key_in}
use Rattle.order.specs.Ordered.{rank_by, definition_of}

-- what a source is ordered by
module _ (text pool groups items : List ℕ) (n i : ℕ) {d : Option Definition} (given : AuthorYear)
    (q : d ≡ definition_at pool n i)
    (g : Gives given (def_author (defined_as text groups n pool d)) (def_year (defined_as text groups n pool d))) where
  rank_is : get_or (lent given.author) (key_by text pool groups items d) ≡ rank_by text pool groups items n i
  unfolding rank_by
  rank_is = rw (g.author_as, q) refl

  pub rank_author : {t : Bor (List ℕ)} → given.author ≡ Some t → t.now ≡ rank_by text pool groups items n i
  rank_author e = rw e at rank_is

  pub rank_key : {r : List ℕ} → given.author ≡ None → r ≡ key_by text pool groups items d → r ≡ rank_by text pool groups items n i
  rank_key e h = h ∙ rw e at rank_is

pub ruleset rank_laws = (rank_author, rank_key)

-- the definition of a source
pub with_below : (items : List ℕ) (m k : ℕ) {j : ℕ} → j ≡ first_with items m k → m < record_bound → j < record_bound
unfolding first_with
with_below items m k p h = let l = first_by (has_number items k) m 0 in omega arith

pub definition_is : (text pool groups items : List ℕ) (n m k : ℕ) (d : Option Definition) {j r : ℕ} {key : List ℕ} → j ≡ first_with items m k
    → key ≡ key_in text items j → d ≡ found_in text groups items n pool key → r ≡ definition_number pool n d
    → r ≡ definition_of text pool groups items n m k
unfolding definition_of source_key_in
definition_is text pool groups items n m k d f p q e = e ∙ rw (q, p, f) refl

pub ruleset of_laws = (with_below, definition_is)

-- the source of a definition
pub use_below : (text items key : List ℕ) (m : ℕ) {j : ℕ} → j ≡ first (used_at text items key) (m - 0) 0 → m < record_bound → j < record_bound
use_below text items key m p h = let l = first_by (used_at text items key) (m - 0) 0 in omega arith

pub ruleset use_laws = (use_below)
