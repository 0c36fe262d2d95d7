-- Keys: where a key ends,
-- and of which bytes it is.
use Prim.Native.Nat.{ℕ, ◌+◌, ◌-◌, ◌≤◌, ◌<◌}
use native.Mathlib.Omega.{arith}
use mathlib.Core.Path.{◌≡◌, refl, sym, ◌∙◌, ap, subst}
use mathlib.Core.List.{List}
use mathlib.Core.Logic.{◌⊎◌, inl, inr}
use mathlib.Core.Bool.{Bool, true, false, ◌||◌, not, true≢false}
use lib.ListN.{length}
use lib.Dec.{ltb}
use borrow.Author.Tests.{lt-ltb, le-ltb, ltb-true, ltb-false, not-false}
use Rattle.base.specs.Pick.{pick}
use Rattle.base.specs.Lists.{byte_at}
use Rattle.base.specs.Last.{last_end}
use Rattle.base.proofs.Bools.{and_left, and_right, split}
use Rattle.base.proofs.Searches.{first_from, first_by, first_fails}
use Rattle.base.proofs.Lasts.{last_end_from, last_end_by, last_end_behind, last_end_holds, last_end_stop}
use Rattle.key.specs.Keys.{is_first, is_mark, is_key, run_end, starts_key, without_marks, key_end}
use Rattle.key.specs.Facts.{KeyEnds, OldKeys}

module _ (s : List ℕ) (i : ℕ) where
  pub key_out : length s ≤ i → key_end s i ≡ i
  unfolding key_end
  key_out h = rw (le-ltb _ _ h)

  pub key_not : i < length s → is_first (byte_at s i) ≡ false → key_end s i ≡ i
  unfolding key_end
  key_not h f = rw (lt-ltb _ _ h, f)

  pub key_yes : i < length s → is_first (byte_at s i) ≡ true → key_end s i ≡ without_marks s i (run_end s (i + 1))
  unfolding key_end
  key_yes h t = rw (lt-ltb _ _ h, t)

  -- the run begins after the key's first byte, and ends by the text's end
  pub run_from : i < run_end s (i + 1)
  unfolding run_end
  run_from = omega (arith, first_from (λ j. not (is_key (byte_at s j))) (length s - (i + 1)) (i + 1))

  pub run_by : i < length s → run_end s (i + 1) ≤ length s
  unfolding run_end
  run_by h = omega (arith, first_by (λ j. not (is_key (byte_at s j))) (length s - (i + 1)) (i + 1))

  -- a key has its first byte
  pub key_there : is_first (byte_at s i) ≡ true → i < without_marks s i (run_end s (i + 1))
  unfolding without_marks
  key_there t = let l = run_from in last_end_behind (λ j. is_first (byte_at s j)) (run_end s (i + 1) - i) i i i (omega arith) (omega arith) t

pub ruleset laws = (key_out, key_not, key_yes, run_from, run_by, key_there)

-- where a key ends ---------------------------------------------------------------------------------------------------------------

key_is : (s : List ℕ) (i : ℕ) → starts_key s i ≡ true → key_end s i ≡ without_marks s i (run_end s (i + 1))
unfolding key_end
key_is s i q = rw q

pub key_from : (s : List ℕ) (i : ℕ) → i ≤ key_end s i
unfolding key_end without_marks
key_from s i = go (starts_key s i)
  where
    go : (t : Bool) → i ≤ pick t (last_end (λ j. is_first (byte_at s j)) (run_end s (i + 1) - i) i i) i
    go true = last_end_from (λ j. is_first (byte_at s j)) (run_end s (i + 1) - i) i i (omega arith)
    go false = omega arith

-- a key is a part of its run
pub key_run : (s : List ℕ) (i : ℕ) → key_end s i ≤ run_end s (i + 1)
unfolding key_end without_marks
key_run s i = go (starts_key s i)
  where
    go : (t : Bool) → pick t (last_end (λ j. is_first (byte_at s j)) (run_end s (i + 1) - i) i i) i ≤ run_end s (i + 1)
    go true = omega (arith, run_from s i, last_end_by (λ j. is_first (byte_at s j)) (run_end s (i + 1) - i) i i (omega arith))
    go false = omega (arith, run_from s i)

-- a key that is there begins with what begins one
pub key_starts : (s : List ℕ) (i : ℕ) → i < key_end s i → starts_key s i ≡ true
unfolding key_end
key_starts s i = go (starts_key s i)
  where
    go : (t : Bool) → i < pick t (without_marks s i (run_end s (i + 1))) i → t ≡ true
    go true h = refl
    go false h = absurd (omega arith)

pub key_by_lem : (s : List ℕ) (i : ℕ) → i ≤ length s → key_end s i ≤ length s
key_by_lem s i h = go (split (ltb i (key_end s i)))
  where
    go : (ltb i (key_end s i) ≡ true) ⊎ (ltb i (key_end s i) ≡ false) → key_end s i ≤ length s
    go (inl p) =
        let l = ltb-true i (length s) (and_left (ltb i (length s)) _ (key_starts s i (ltb-true i (key_end s i) p))) in
        omega (arith, key_run s i, run_by s i l)
    go (inr p) = omega (arith, ltb-false i (key_end s i) p)

-- the bytes of a key -------------------------------------------------------------------------------------------------------------

run_key : (s : List ℕ) (i v : ℕ) → i ≤ v → v < run_end s i → is_key (byte_at s v) ≡ true
unfolding run_end
run_key s i v a h = not-false _ (first_fails (λ j. not (is_key (byte_at s j))) (length s - i) i v a h)

first_key : (b : ℕ) → is_first b ≡ true → is_key b ≡ true
unfolding is_key
first_key b p = rw p

-- what goes on a key and begins none is a mark; what is no mark begins one
key_mark : (b : ℕ) → is_key b ≡ true → is_first b ≡ false → is_mark b ≡ true
unfolding is_key
key_mark b h p = rw p at h

no_mark : (b : ℕ) → is_key b ≡ true → is_mark b ≡ false → is_first b ≡ true
unfolding is_key
no_mark b h p = go (is_first b) (rw p at h)
  where
    go : (f : Bool) → f || false ≡ true → f ≡ true
    go true q = refl
    go false q = q

-- every byte of a key's run goes on a key
run_byte : (s : List ℕ) (k v : ℕ) → starts_key s k ≡ true → k ≤ v → v < run_end s (k + 1) → is_key (byte_at s v) ≡ true
run_byte s k v q a h = at (split (ltb k v))
  where
    at : (ltb k v ≡ true) ⊎ (ltb k v ≡ false) → is_key (byte_at s v) ≡ true
    at (inl p) = let lt = ltb-true k v p in run_key s (k + 1) v (omega arith) h
    at (inr p) =
        let ge = ltb-false k v p in
        let e : k ≡ v = omega arith in
        subst (λ (n : ℕ). is_key (byte_at s n) ≡ true) e (first_key (byte_at s k) (and_right (ltb k (length s)) (is_first (byte_at s k)) q))

-- and so does every byte of a key
pub key_byte : (s : List ℕ) (k v : ℕ) → k ≤ v → v < key_end s k → is_key (byte_at s v) ≡ true
key_byte s k v a h = run_byte s k v (key_starts s k (omega arith)) a (omega (arith, key_run s k))

-- none of `@`, `;` and `]` does
key_no : (b : ℕ) → is_key b ≡ false → (s : List ℕ) (k v : ℕ) → k ≤ v → byte_at s v ≡ b → v < key_end s k → ⊥
key_no b n s k v a e h = true≢false (sym (key_byte s k v a h) ∙ ap is_key e ∙ n)

pub key_at_lem : (s : List ℕ) (k v : ℕ) → k ≤ v → byte_at s v ≡ 64 → v < key_end s k → ⊥
unfolding is_key is_first is_mark
key_at_lem = key_no 64 refl

pub key_cut : (s : List ℕ) (k v : ℕ) → k ≤ v → (byte_at s v ≡ 59) ⊎ (byte_at s v ≡ 93) → key_end s k ≤ v
unfolding is_key is_first is_mark
key_cut s k v a (inl e) = let n = key_no 59 refl s k v a e in omega arith
key_cut s k v a (inr e) = let n = key_no 93 refl s k v a e in omega arith

-- the theorems of specs/Facts ----------------------------------------------------------------------------------------------------

-- the last byte of a key, and those of its run after it
key_last : (s : List ℕ) (i : ℕ) → i < key_end s i → is_first (byte_at s (key_end s i - 1)) ≡ true
unfolding without_marks
key_last s i h =
    let e = key_is s i (key_starts s i h) in
    rw e (last_end_holds (λ j. is_first (byte_at s j)) (run_end s (i + 1) - i) i i (omega arith) (omega arith))

key_behind : (s : List ℕ) (i v : ℕ) → starts_key s i ≡ true → i ≤ v → v < run_end s (i + 1) → is_first (byte_at s v) ≡ true → v < key_end s i
unfolding without_marks
key_behind s i v q l h p = rw (key_is s i q) (last_end_behind (λ j. is_first (byte_at s j)) (run_end s (i + 1) - i) i i v l (omega arith) p)

key_after : (s : List ℕ) (i v : ℕ) → starts_key s i ≡ true → key_end s i ≤ v → v < run_end s (i + 1) → is_mark (byte_at s v) ≡ true
key_after s i v q l h = go (is_first (byte_at s v)) refl
  where
    go : (f : Bool) → is_first (byte_at s v) ≡ f → is_mark (byte_at s v) ≡ true
    go true p = absurd (omega (arith, key_behind s i v q (omega (arith, h, l, key_from s i)) h p))
    go false p = key_mark (byte_at s v) (run_byte s i v q (omega (arith, key_from s i)) h) p

pub key_ends : KeyEnds
key_ends s i h = record {
  last = key_last s i h;
  inside = λ v. key_byte s i v;
  after = λ v. key_after s i v (key_starts s i h);
}

pub old_keys : OldKeys
unfolding without_marks
old_keys s i q m =
    let e = run_end s (i + 1) in
    let l = run_from s i in
    let b = run_byte s i (e - 1) q (omega arith) (omega arith) in
    key_is s i q ∙ sym (last_end_stop (λ j. is_first (byte_at s j)) i e i refl l (no_mark _ b m))
