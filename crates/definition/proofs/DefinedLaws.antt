-- What defines a key, in the form of the goals of `find`,
-- and how many entries a pool may have.
use Prim.Native.Nat.{ℕ, ◌≤◌, ◌<◌}
use native.Mathlib.Omega.{arith}
use mathlib.Core.Path.{◌≡◌, refl}
use mathlib.Core.Bool.{Bool, true, false}
use lib.Dec.{ltb}
use mathlib.Core.List.{List}
use borrow.Author.Tests.{lt-ltb, le-ltb, ltb-true, ltb-false}
use Rattle.std.specs.Prelude.{Option, Some, None}
use Rattle.pool.specs.Layout.{count_of, well_formed}
use Rattle.pool.proofs.PoolLaws.{laid_out_lem, count_bytes}
use Rattle.definition.specs.declared.defined.Definition.{Definition}
use Rattle.definition.specs.declared.defined.Definition.TheVariants.{Line, Entry}
use Rattle.definition.specs.Lines.{line_in}
use Rattle.definition.specs.Definitions.{definition_in}
use Rattle.definition.specs.Defined.{defined_as, found_in}
use Rattle.definition.specs.Entries.{entry_in}

-- the definition of a key --------------------------------------------------------------------------------------------------------

-- which it is: a line, an entry of the pool, or nothing
module _ (text pool groups items key : List ℕ) (n : ℕ) where
  pub found_line : {g : ℕ} → g ≡ line_in text groups items n key → g < n → Some (Line g) ≡ found_in text groups items n pool key
  unfolding found_in
  found_line {g} p h = rw (← p, lt-ltb g n h) refl

  module _ (p : line_in text groups items n key ≡ n) where
    no_line : ltb (line_in text groups items n key) n ≡ false
    no_line = le-ltb (line_in text groups items n key) n (omega arith)

    pub found_entry : {i : ℕ} → i ≡ entry_in pool key → i < count_of pool → Some (Entry i) ≡ found_in text groups items n pool key
    unfolding found_in
    found_entry {i} q l = rw (no_line, ← q, lt-ltb i (count_of pool) l) refl

    pub found_nothing : entry_in pool key ≡ count_of pool → None ≡ found_in text groups items n pool key
    unfolding found_in
    found_nothing q = rw (no_line, le-ltb (entry_in pool key) (count_of pool) (omega arith)) refl

-- and what it is then
pub find_is : (text pool groups items key : List ℕ) (n : ℕ) {d : Option Definition} → d ≡ found_in text groups items n pool key
    → defined_as text groups n pool d ≡ definition_in text groups items n pool key
unfolding definition_in
find_is text pool groups items key n p = rw p refl

pub ruleset find_laws = (find_is, found_line, found_entry, found_nothing)

-- a pool has few entries
pub count_short : (pool : List ℕ) → well_formed pool ≡ true → count_of pool ≤ 8192
count_short pool w = go (ltb 0 (count_of pool)) refl
  where
    go : (t : Bool) → ltb 0 (count_of pool) ≡ t → count_of pool ≤ 8192
    go true q =
        let l = laid_out_lem pool w (count_bytes pool w (ltb-true 0 (count_of pool) q)) in
        let a = l.small in
        let b = l.pairs in
        omega arith
    go false q = let h = ltb-false 0 (count_of pool) q in omega arith
