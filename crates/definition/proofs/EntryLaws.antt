-- Entries of the pool, in the form of the goals:
-- what is read of one, and the first with an id.
use Prim.Native.Nat.{ℕ, zero, suc, ◌+◌, ◌-◌}
use native.Mathlib.Numerals.{add-one}
use native.Mathlib.Omega.{arith}
use mathlib.Core.Path.{◌≡◌, refl, sym, ◌∙◌, ap}
use mathlib.Core.List.{List, [], ◌∷◌, map}
use mathlib.Core.Bool.{Bool, true, false}
use mathlib.Core.Option.{Option, none, some, or_else}
use lib.Dec.{ltb}
use borrow.Author.Tests.{lt-ltb, le-ltb, ltb-true, ltb-false}
use Rattle.std.specs.Prelude.{Option as Option', Some, None, unwrap_or}
use Rattle.std.specs.Option.{option_or}
use Rattle.std.specs.Borrow.{Bor}
use Rattle.pool.specs.Fields.{Field}
use Rattle.pool.specs.Entries.{Name, entry_of, field_with, names_in}
use Rattle.base.specs.Lent.{lent}
use Rattle.source.specs.Entry.{author_of, author_by}
use Rattle.std.specs.Bool.{then_some}
use Rattle.base.specs.Pick.{pick}
use Rattle.base.specs.First.{first}
use Rattle.base.specs.Found.{Found}
use Rattle.base.specs.Lists.{up_from}
use Rattle.pool.specs.Layout.{count_of, entry_at, entries_of}
use Rattle.definition.specs.Defs.{Def, entry_def, entry_defines, first_entry}
use Rattle.base.proofs.Searches.{first_by}
use Rattle.definition.specs.Entries.{entry_has, entry_in}

-- what is read of entry `i`, from its fields
module _ (pool : List ℕ) (i : ℕ) (fs : List Field) (e : entry_of fs ≡ entry_at pool i) where
  pub id_read : (o : Option' (Bor (List ℕ))) (d : Bor (List ℕ)) {r : Bor (List ℕ)} → d.now ≡ [] → lent o ≡ field_with 1 fs → r ≡ unwrap_or o d
      → r.now ≡ (entry_at pool i).id
  unfolding entry_of
  id_read None d z h p = rw (p, z, ← e, ← h) refl
  id_read (Some t) d z h p = rw (p, ← e, ← h) refl

  pub author_none : names_in fs ≡ [] → none ≡ author_of (entry_at pool i)
  unfolding entry_of author_of author_by
  author_none h = rw (← e, h) refl

  pub author_first : (literal family given : Option' (Bor (List ℕ))) {more : List Name} {r : Option' (Bor (List ℕ))}
      → names_in fs ≡ record { family = lent family; given = lent given; literal = lent literal } ∷ more → r ≡ option_or literal family
      → lent r ≡ author_of (entry_at pool i)
  unfolding entry_of author_of author_by or_else
  author_first None family given h p = rw (p, ← e, h) refl
  author_first (Some t) family given h p = rw (p, ← e, h) refl

-- the first of `m` places at which a test holds, where there is one
pub found_first : (f : ℕ → Bool) (n : ℕ) {i m : ℕ} {r : Option' ℕ} → i ≡ first f (m - 0) 0 → r ≡ then_some (ltb i m) i → m ≡ n
    → Found n (first f n 0) r
found_first f n {i} {m} p q e = rw (q, ← e) (go (ltb i m) refl)
  where
    z : m - 0 ≡ m
    z = omega arith

    go : (t : Bool) → ltb i m ≡ t → Found m (first f m 0) (then_some t i)
    go true h = let k = ltb-true i m h in (rw z at p, k)
    go false h = let k = ltb-false i m h in omega (arith, rw z at p, first_by f m 0)

-- it is the first entry of the list
unfoldable entry_given : List ℕ → ℕ → ℕ → Option Def
entry_given s e i = pick (ltb i e) (some (entry_def i (entry_at s i))) none

first_given : (s key : List ℕ) (n i : ℕ) → first_entry key i (map (entry_at s) (up_from i n)) ≡ entry_given s (i + n) (first (entry_has s key) n i)
unfolding up_from first_entry first entry_given entry_has
first_given s key zero i = rw (le-ltb i (i + 0) (omega arith)) refl
first_given s key (suc n) i = go (entry_has s key i) refl
    (ap (λ (k : ℕ). first_entry key (i + 1) (map (entry_at s) (up_from k n))) (sym (add-one i)) ∙ first_given s key n (i + 1))
  where
    z : i + 1 + n ≡ i + suc n
    z = omega arith

    go : (t : Bool) → entry_has s key i ≡ t
        → first_entry key (i + 1) (map (entry_at s) (up_from (suc i) n)) ≡ entry_given s (i + 1 + n) (first (entry_has s key) n (i + 1))
        → pick (entry_defines key (entry_at s i)) (some (entry_def i (entry_at s i)))
        (first_entry key (i + 1) (map (entry_at s) (up_from (suc i) n)))
        ≡ entry_given s (i + suc n) (pick (entry_has s key i) i (first (entry_has s key) n (i + 1)))
    go true q rec = rw (q, lt-ltb i (i + suc n) (omega arith)) refl
    go false q rec = rw (q, ← z) rec

pub first_entry_lem : (s key : List ℕ)
    → first_entry key 0 (entries_of s) ≡ pick (ltb (entry_in s key) (count_of s)) (some (entry_def (entry_in s key) (entry_at s (entry_in s key)))) none
unfolding entry_in entries_of entry_given
first_entry_lem s key = let z : 0 + count_of s ≡ count_of s = omega arith in rw z at (first_given s key (count_of s) 0)
