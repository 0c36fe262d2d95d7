-- The two ways of numbering agree: the last earlier item record
-- with the same key has what the sources say of that key.
use Prim.Native.Nat.{ℕ, suc, ◌+◌, ◌%◌, ◌≤◌, ◌<◌}
use native.Mathlib.Omega.{arith}
use native.Mathlib.Nat.{mod-eq_of_lt}
use mathlib.Core.Path.{◌≡◌, refl, sym, ◌∙◌, ap, subst}
use mathlib.Core.List.{List, []}
use mathlib.Core.Logic.{◌⊎◌, inl, inr}
use mathlib.Core.Bool.{Bool, true, false}
use lib.ListN.{length}
use lib.Dec.{ltb}
use borrow.Author.Tests.{lt-ltb, le-ltb, ltb-true, ltb-false}
use Rattle.base.specs.Pick.{pick}
use Rattle.base.specs.LastPlace.{last}
use Rattle.base.specs.Lists.{same}
use Rattle.base.proofs.Lasts.{LastAt, LastNone, last_here, last_before, none_before, last_alike_lem, none_alike}
use Rattle.records.specs.Widths.{item_width, item_number, item_use}
use Rattle.records.specs.Records.{key_in}
use Rattle.records.specs.Fields.{item_field}
use Rattle.uses.specs.Uses.{used_at, same_use, last_use, number_in, use_in, sources_in}
use Rattle.annotation.specs.Sources.{Source, place_of, number_of, uses_of, use_of, used}
use Rattle.base.proofs.Sames.{same_refl, same_true}
use Rattle.annotation.proofs.Numbers.{place_used, place_stays, place_there}
use Rattle.annotation.proofs.Places.{uses_used, uses_other, uses_most, uses_none, used_old, used_new, used_most, place_other}

-- what the first `k` item records and the sources say of a key: record `j` is the last that has it, or none has
pub record Cited (text items : List ℕ) (pooled : Bool) (k : ℕ) (sources : List Source) (key : List ℕ) (j : ℕ) : Type 0 where
  pub at : LastAt (used_at text items key) k j
  pub number : item_field items j item_number ≡ place_of key sources + 1
  pub uses : pooled ≡ true → item_field items j item_use ≡ uses_of key sources
  pub there : place_of key sources < length sources

pub record Uncited (text items : List ℕ) (k : ℕ) (sources : List Source) (key : List ℕ) : Type 0 where
  pub none : LastNone (used_at text items key) k
  pub new : place_of key sources ≡ length sources

abbrev pub Known : List ℕ → List ℕ → Bool → ℕ → List Source → List ℕ → Type 0
Known text items pooled k sources key = ((j : ℕ) × Cited text items pooled k sources key j) ⊎ Uncited text items k sources key

-- item record `j`, where it is numbered, has the number of its key
abbrev pub HasNumber : List ℕ → List ℕ → List Source → ℕ → Type 0
HasNumber text items sources j =
    0 < item_field items j item_number
    → (item_field items j item_number ≡ place_of (key_in text items j) sources + 1) × (place_of (key_in text items j) sources < length sources)

-- the first `k` item records, and the sources used in them
pub record Joined (text items : List ℕ) (pooled : Bool) (k : ℕ) (sources : List Source) : Type 0 where
  pub known : (key : List ℕ) → Known text items pooled k sources key
  pub numbers : (j : ℕ) → j < k → HasNumber text items sources j
  pub few : length sources ≤ k
  pub few_uses : (key : List ℕ) → uses_of key sources ≤ k

-- none yet
pub joined_none : (text items : List ℕ) (pooled : Bool) → Joined text items pooled 0 []
unfolding place_of uses_of last
joined_none text items pooled = record {
  known = λ key. inr (record { none = λ d. refl; new = refl });
  numbers = λ j h. absurd (omega arith);
  few = omega arith;
  few_uses = λ key. omega arith;
}

-- one more record that is not numbered
pub joined_on : (text items : List ℕ) (pooled : Bool) (k : ℕ) (sources : List Source) → item_field items k item_number ≡ 0
    → Joined text items pooled k sources → Joined text items pooled (suc k) sources
joined_on text items pooled k sources z d = record {
  known = λ key. on key (d.known key);
  numbers = λ j h. at j (ltb j k) refl h;
  few = omega (arith, d.few);
  few_uses = λ key. omega (arith, d.few_uses key);
}
  where
    not_here : (key : List ℕ) → used_at text items key k ≡ false
    not_here key = rw z

    on : (key : List ℕ) → Known text items pooled k sources key → Known text items pooled (suc k) sources key
    on key (inl c) = inl (
      c.0,
      record {
        at = last_before (used_at text items key) k c.0 (not_here key) c.1.at;
        number = c.1.number;
        uses = c.1.uses;
        there = c.1.there;
      },
    )
    on key (inr u) = inr (record { none = none_before (used_at text items key) k (not_here key) u.none; new = u.new })

    at : (j : ℕ) (t : Bool) → ltb j k ≡ t → j < suc k → HasNumber text items sources j
    at j true q h = d.numbers j (ltb-true j k q)
    at j false q h = λ p. absurd (let e : j ≡ k = omega (arith, ltb-false j k q) in let f : item_field items j item_number ≡ 0 = ap (λ (i : ℕ). item_field items i item_number) e ∙ z in omega arith)

-- one more record that is: with the number of its key, and with one more use where there is a pool
module _ (text items next : List ℕ) (pooled : Bool) (k : ℕ) (sources : List Source) (key : List ℕ)
    (d : Joined text items pooled k sources)
    (same-fields : (j c : ℕ) → j < k → c < item_width → item_field next j c ≡ item_field items j c)
    (its_key : key_in text next k ≡ key)
    (its_number : item_field next k item_number ≡ number_of key sources)
    (its_use : pooled ≡ true → item_field next k item_use ≡ uses_of key sources + 1) where
  after : List Source
  after = used key sources

  key_alike : (j : ℕ) → j < k → key_in text next j ≡ key_in text items j
  unfolding key_in
  key_alike j h = rw (same-fields j 2 h (omega arith), same-fields j 3 h (omega arith))

  used_alike : (x : List ℕ) (j : ℕ) → j < k → used_at text next x j ≡ used_at text items x j
  used_alike x j h = rw (same-fields j 12 h (omega arith), key_alike j h)

  used_here : (x : List ℕ) → used_at text next x k ≡ same key x
  unfolding number_of
  used_here x = rw (its_number, lt-ltb 0 (place_of key sources + 1) (omega arith), its_key)

  known_here : Known text next pooled (suc k) after key
  unfolding after number_of
  known_here = inl (
    k,
    record {
      at = last_here (used_at text next key) k (used_here key ∙ same_refl key);
      number = its_number ∙ ap (λ (n : ℕ). n + 1) (sym (place_used key sources));
      uses = λ p. its_use p ∙ sym (uses_used key sources);
      there = place_there key sources;
    },
  )

  known_other : (x : List ℕ) → same key x ≡ false → Known text items pooled k sources x → Known text next pooled (suc k) after x
  unfolding after
  known_other x q (inl c) =
      let j = c.0 in
      let b = c.1.at.below in
      let r = place_stays x key sources c.1.there in
      inl (
        j,
        record {
          at =
              last_before (used_at text next x) k j (used_here x ∙ q)
              (last_alike_lem (used_at text items x) (used_at text next x) k j (used_alike x) c.1.at);
          number = same-fields j 12 b (omega arith) ∙ c.1.number ∙ ap (λ (n : ℕ). n + 1) (sym r.0);
          uses = λ p. same-fields j 13 b (omega arith) ∙ c.1.uses p ∙ sym (uses_other x key sources q);
          there = r.1;
        },
      )
  known_other x q (inr u) = inr (record {
    none =
        none_before (used_at text next x) k (used_here x ∙ q)
        (none_alike (used_at text items x) (used_at text next x) k (used_alike x) u.none);
    new = place_other x key sources q u.new;
  })

  known_all : (x : List ℕ) (t : Bool) → same key x ≡ t → Known text next pooled (suc k) after x
  known_all x true q = subst (λ (y : List ℕ). Known text next pooled (suc k) after y) (same_true key x q) known_here
  known_all x false q = known_other x q (d.known x)

  number_here : HasNumber text next after k
  unfolding after number_of
  number_here = λ p. rw its_key (its_number ∙ ap (λ (n : ℕ). n + 1) (sym (place_used key sources)), place_there key sources)

  number_before : (j : ℕ) → j < k → HasNumber text next after j
  unfolding after
  number_before j h =
      λ p.
      let e = same-fields j 12 h (omega arith) in
      let r = d.numbers j h (omega (arith, e)) in
      let l = place_stays (key_in text items j) key sources r.1 in
      rw (key_alike j h) (e ∙ r.0 ∙ ap (λ (n : ℕ). n + 1) (sym l.0), l.1)

  numbers_all : (j : ℕ) (t : Bool) → ltb j k ≡ t → j < suc k → HasNumber text next after j
  numbers_all j true q h = number_before j (ltb-true j k q)
  numbers_all j false q h =
      let e : k ≡ j = omega (arith, ltb-false j k q) in subst (λ (i : ℕ). HasNumber text next after i) e number_here

  pub joined_cite : Joined text next pooled (suc k) (used key sources)
  unfolding after
  joined_cite = record {
    known = λ x. known_all x (same key x) refl;
    numbers = λ j h. numbers_all j (ltb j k) refl h;
    few = omega (arith, used_most key sources, d.few);
    few_uses = λ x. omega (arith, uses_most x key sources, d.few_uses x);
  }

-- the number, the use and the sources that the code comes to
module _ (text items : List ℕ) (pooled : Bool) (k : ℕ) (sources : List Source) (d : Joined text items pooled k sources) (small : k < 65535) where
  abbrev its : List ℕ
  its = key_in text items k

  pub number_agrees : number_in text items (length sources) k ≡ number_of (key_in text items k) sources
  unfolding number_in last_use same_use number_of
  number_agrees = go (d.known its)
    where
      go : Known text items pooled k sources its
          → pick (ltb (last (used_at text items its) k k) k) (item_field items (last (used_at text items its) k k) item_number) ((length sources + 1) % 65536)
          ≡ place_of its sources + 1
      go (inl c) = rw (c.1.at.is k, lt-ltb c.0 k c.1.at.below) c.1.number
      go (inr u) =
          rw (u.none k, le-ltb k k (omega arith), mod-eq_of_lt {n = length sources + 1} {m = 65536} (omega (arith, d.few))) (ap (λ (n : ℕ). n + 1) (sym u.new))

  pub use_agrees : use_in text items pooled k ≡ use_of pooled (key_in text items k) sources
  unfolding use_in last_use same_use use_of
  use_agrees = on pooled refl
    where
      go : pooled ≡ true → Known text items pooled k sources its
          → pick (ltb (last (used_at text items its) k k) k) ((item_field items (last (used_at text items its) k k) item_use + 1) % 65536) 1
          ≡ uses_of its sources + 1
      go p (inl c) =
          let e = c.1.uses p in
          rw (c.1.at.is k, lt-ltb c.0 k c.1.at.below, e) (mod-eq_of_lt (omega (arith, d.few_uses its)))
      go p (inr u) = rw (u.none k, le-ltb k k (omega arith), uses_none its sources u.new)

      on : (b : Bool) → pooled ≡ b
          → pick b (pick (ltb (last (used_at text items its) k k) k) ((item_field items (last (used_at text items its) k k) item_use + 1) % 65536) 1) 0
          ≡ pick b (uses_of its sources + 1) 0
      on true q = go q (d.known its)
      on false q = refl

  pub sources_agree : sources_in text items (length sources) k ≡ length (used (key_in text items k) sources)
  unfolding sources_in last_use same_use
  sources_agree = go (d.known its)
    where
      go : Known text items pooled k sources its
          → pick (ltb (last (used_at text items its) k k) k) (length sources) (length sources + 1) ≡ length (used its sources)
      go (inl c) = rw (c.1.at.is k, lt-ltb c.0 k c.1.at.below) (sym (used_old its sources c.1.there))
      go (inr u) = rw (u.none k, le-ltb k k (omega arith)) (sym (used_new its sources u.new))
