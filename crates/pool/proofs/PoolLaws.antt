-- What a well-formed pool has: room for its pairs,
-- and an entry at each pair.
use Prim.Native.Nat.{ℕ, zero, suc, ◌+◌, ◌-◌, ◌*◌, ◌≤◌, ◌<◌}
use native.Mathlib.Omega.{arith}
use mathlib.Core.Path.{◌≡◌, refl, sym, ◌∙◌, ap}
use mathlib.Core.List.{List}
use mathlib.Core.Bool.{Bool, true, false, ◌&&◌, true≢false}
use lib.ListN.{length, take, drop, get_or-eq_default}
use lib.Dec.{eqb, leb}
use borrow.Author.Tests.{leb-true, lt-ltb, eqb-true}
use Rattle.pool.specs.Numbers.{le_at}
use Rattle.pool.specs.Fields.{entry_good}
use Rattle.pool.specs.Entries.{entry_of}
use Rattle.pool.specs.Layout.{count_of, offset_of, end_of, entries_good, laid_out, well_formed, entry_at}
use Rattle.pool.specs.Readers.{all_fields, are_fields}
use Rattle.pool.proofs.PartLaws.{entry_fields, entry_same}

-- what the layout's test says
pub record Laid (s : List ℕ) : Type 0 where
  pub small : length s ≤ 32768
  pub pairs : 2 + 4 * count_of s ≤ length s
  pub entries : entries_good (count_of s) s 0 (2 + 4 * count_of s) ≡ true

laid : (s : List ℕ) → laid_out s ≡ true → Laid s
unfolding laid_out
laid s h = go (leb (length s) 32768) (leb 2 (length s)) (leb (2 + 4 * count_of s) (length s)) (entries_good (count_of s) s 0 (2 + 4 * count_of s)) refl refl refl h
  where
    go : (a b c d : Bool) → leb (length s) 32768 ≡ a → leb (2 + 4 * count_of s) (length s) ≡ c → entries_good (count_of s) s 0 (2 + 4 * count_of s) ≡ d
        → (a && b && c && d) ≡ true → Laid s
    go true true true d p q r h = record { small = leb-true _ _ p; pairs = leb-true _ _ q; entries = r ∙ h }
    go true true false d p q r h = absurd (true≢false (sym h))
    go true false c d p q r h = absurd (true≢false (sym h))
    go false b c d p q r h = absurd (true≢false (sym h))

module _ (s : List ℕ) (w : well_formed s ≡ true) where
  pub laid_out_lem : 0 < length s → Laid s
  unfolding well_formed
  laid_out_lem h = laid s (rw (lt-ltb 0 (length s) h) at w)

  -- a pool with a count has bytes, and pairs for each of its entries
  pub count_bytes : {i : ℕ} → i < count_of s → 0 < length s
  unfolding le_at
  count_bytes {i} h = go (length s) refl
    where
      go : (n : ℕ) → length s ≡ n → 0 < n
      go zero e =
          let a = get_or-eq_default s 0 {n = 0} (omega arith) in
          let b = get_or-eq_default s 0 {n = 1} (omega arith) in
          absurd (omega arith)
      go (suc n) e = omega arith

  pub pair_there : {i : ℕ} → i < count_of s → 6 + 4 * i ≤ length s
  pair_there h = let p = (laid_out_lem (count_bytes h)).pairs in omega arith

  -- no pool has no entries
  pub count_none : length s < 2 → 0 ≡ count_of s
  unfolding le_at
  count_none h = go (length s) refl
    where
      go : (n : ℕ) → length s ≡ n → 0 ≡ count_of s
      go zero e =
          let a = get_or-eq_default s 0 {n = 0} (omega arith) in
          let b = get_or-eq_default s 0 {n = 1} (omega arith) in
          omega arith
      go (suc n) e = let p = (laid_out_lem (omega arith)).pairs in absurd (omega arith)

-- an entry stands at the pair of number `i`
pub record Stands (s : List ℕ) (i : ℕ) : Type 0 where
  pub good : entry_good s (offset_of s i) (end_of s i) ≡ true
  pub inside : end_of s i ≤ length s

stands : (n : ℕ) (s : List ℕ) (i at : ℕ) → entries_good (suc n) s i at ≡ true → Stands s i × (entries_good n s (i + 1) (end_of s i) ≡ true)
unfolding entries_good
stands n s i at h = go (eqb (offset_of s i) at) (leb (end_of s i) (length s)) (entry_good s at (end_of s i)) (entries_good n s (i + 1) (end_of s i)) refl refl refl refl h
  where
    go : (a b c d : Bool) → eqb (offset_of s i) at ≡ a → leb (end_of s i) (length s) ≡ b → entry_good s at (end_of s i) ≡ c → entries_good n s (i + 1) (end_of s i) ≡ d
        → (a && b && c && d) ≡ true → Stands s i × (entries_good n s (i + 1) (end_of s i) ≡ true)
    go true true true d p q r t h = (record { good = ap (λ (k : ℕ). entry_good s k (end_of s i)) (eqb-true (offset_of s i) at p) ∙ r; inside = leb-true _ _ q }, t ∙ h)
    go true true false d p q r t h = absurd (true≢false (sym h))
    go true false c d p q r t h = absurd (true≢false (sym h))
    go false b c d p q r t h = absurd (true≢false (sym h))

each_stands : (n : ℕ) (s : List ℕ) (i at j : ℕ) → entries_good n s i at ≡ true → j < n → Stands s (i + j)
each_stands zero s i at j h l = absurd (omega arith)
each_stands (suc n) s i at zero h l = let p : i + 0 ≡ i = omega arith in rw p (stands n s i at h).0
each_stands (suc n) s i at (suc j) h l =
    let p : i + suc j ≡ i + 1 + j = omega arith in
    rw p (each_stands n s (i + 1) (end_of s i) j (stands n s i at h).1 (omega arith))

pub entry_there : (s : List ℕ) (i : ℕ) → well_formed s ≡ true → i < count_of s → Stands s i
entry_there s i w h =
    let l = laid_out_lem s w (count_bytes s w h) in
    let p : 0 + i ≡ i = omega arith in
    rw p at (each_stands (count_of s) s 0 (2 + 4 * count_of s) i l.entries h)

-- it is made of fields, those that stand there
pub entry_is : (s : List ℕ) (i : ℕ) {a e : ℕ} → well_formed s ≡ true → i < count_of s → a ≡ offset_of s i → e ≡ end_of s i
    → are_fields (take (e - a) (drop a s)) ≡ true
entry_is s i w h p q =
    let t = entry_there s i w h in
    rw (p, q) (entry_fields s (offset_of s i) (end_of s i) (omega arith) t.inside t.good)

pub entry_reads : (s : List ℕ) (i : ℕ) {a e : ℕ} → well_formed s ≡ true → i < count_of s → a ≡ offset_of s i → e ≡ end_of s i
    → entry_of (all_fields (take (e - a) (drop a s))) ≡ entry_at s i
unfolding entry_at
entry_reads s i w h p q =
    let t = entry_there s i w h in
    rw (p, q) (ap entry_of (entry_same s (offset_of s i) (end_of s i) (omega arith) t.inside t.good))
