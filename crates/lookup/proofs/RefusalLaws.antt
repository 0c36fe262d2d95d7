-- What holds where nothing refuses a look-up before its bracket is resolved;
-- the answers of the size and the locator call.
use Prim.Native.Nat.{ℕ, ◌/◌, ◌≤◌, ◌<◌}
use native.Mathlib.Omega.{arith}
use mathlib.Core.Path.{◌≡◌, refl, sym}
use Rattle.std.specs.Prelude.{Result, Ok, Err}
use Rattle.base.specs.Refusals.{refusal_of, answered}
use Rattle.base.specs.declared.refusal.Refusal.{Refusal}
use mathlib.Core.List.{List}
use mathlib.Core.Bool.{Bool, true, false, ◌&&◌, ◌||◌, not}
use lib.ListN.{length}
use lib.Dec.{eqb, ltb}
use borrow.Author.Tests.{ltb-false}
use Rattle.base.specs.Pick.{pick}
use Rattle.base.specs.Lists.{is_at}
use Rattle.utf8.specs.Utf8.{too_long, utf8}
use Rattle.text.specs.Escape.{escaped_at}
use Rattle.utf8.specs.Refusal.{after_text, text_refusal}
use Rattle.locator.specs.declared.Locator.{Locator}
use Rattle.locator.specs.declared.Locator.TheVariants.{Nothing}
use Rattle.locator.specs.Answers.{code_of, value_of, suffix_of}
use Rattle.locator.specs.Locators.{locator_of}
use Rattle.index.specs.Entries.{opens_at}
use Rattle.index.specs.Building.{Enough}
use Rattle.resolve.proofs.AtBracket.{opens_in}
use Rattle.lookup.specs.Refusals.{too_few, look_up_refusal}
use Rattle.lookup.specs.Others.{sized, located, locator_call, size_call}
use Rattle.lookup.specs.Values.{locator_values, locator_numbers, locator_answer, size_values, size_numbers, size_answer}

-- Where nothing refuses a look-up before its bracket is resolved: a build can be had, and an unescaped `[` stands at the place.
pub record Unrefused (s : List ℕ) (at n m : ℕ) : Type 0 where
  pub enough : Enough s n m
  pub there : at < length s
  pub opens : opens_at s at ≡ true

pub unrefused : (s : List ℕ) (at n m : ℕ) → look_up_refusal s at n m ≡ 0 → Unrefused s at n m
unfolding look_up_refusal after_text too_few opens_at
unrefused s at n m q =
    let r = go (too_long s) (utf8 s) (is_at s at 91) (escaped_at s at) (ltb n (length s)) (ltb m (length s)) q in
    record {
      enough =
          record { short = ltb-false 65535 (length s) r.0; wide = ltb-false n (length s) r.2; long = ltb-false m (length s) r.3 };
      there = opens_in s at r.1;
      opens = r.1;
    }
  where
    go : (a b c d e f : Bool) → pick {A = ℕ} a 1 (pick b (pick (not c) 3 (pick d 4 (pick (e || f) 9 0))) 2) ≡ 0
        → (a ≡ false) × (c && not d ≡ true) × (e ≡ false) × (f ≡ false)
    go true b c d e f q = absurd (omega arith)
    go false false c d e f q = absurd (omega arith)
    go false true false d e f q = absurd (omega arith)
    go false true true true e f q = absurd (omega arith)
    go false true true false true f q = absurd (omega arith)
    go false true true false false true q = absurd (omega arith)
    go false true true false false false q = (refl, refl, refl, refl)

-- no number is above 10
pub look_up_refusal_low : (s : List ℕ) (at n m : ℕ) → look_up_refusal s at n m ≤ 9
unfolding look_up_refusal after_text
look_up_refusal_low s at n m = go (too_long s) (utf8 s) (is_at s at 91) (escaped_at s at) (too_few s n m)
  where
    go : (a b c d e : Bool) → pick a 1 (pick b (pick (not c) 3 (pick d 4 (pick e 9 0))) 2) ≤ 9
    go true b c d e = omega arith
    go false false c d e = omega arith
    go false true false d e = omega arith
    go false true true true e = omega arith
    go false true true false true = omega arith
    go false true true false false = omega arith

pub at_there : (s : List ℕ) (at n m : ℕ) → 0 ≡ look_up_refusal s at n m → at < length s
at_there s at n m q = (unrefused s at n m (sym q)).there

-- the size and the locator call: the answers,
module _ (s : List ℕ) where
  pub size_answer_is : size_answer (size_call s) ≡ answered (text_refusal s) (length s / 3)
  unfolding size_call size_answer
  size_answer_is = go (eqb (text_refusal s) 0) refl
    where
      go : (t : Bool) → eqb (text_refusal s) 0 ≡ t → size_answer (pick t (sized 0 (length s / 3)) (sized (text_refusal s) 0)) ≡ pick t (Ok (length s / 3)) (Err (refusal_of (text_refusal s)))
      go true q = refl
      go false q = rw q

  pub locator_answer_is : locator_answer (locator_call s) ≡ answered (text_refusal s) (locator_of s 0 (length s))
  unfolding locator_call locator_answer
  locator_answer_is = go (eqb (text_refusal s) 0) refl
    where
      go : (t : Bool) → eqb (text_refusal s) 0 ≡ t
          → locator_answer (pick t (located 0 (locator_of s 0 (length s))) (located (text_refusal s) Nothing)) ≡ pick t (Ok (locator_of s 0 (length s))) (Err (refusal_of (text_refusal s)))
      go true q = refl
      go false q = rw q

  -- and their numbers
  pub size_values_lem : {a : Result ℕ Refusal} → a ≡ size_answer (size_call s) → size_values a ≡ size_numbers (size_call s)
  unfolding size_answer size_call size_values size_numbers text_refusal after_text refusal_of
  size_values_lem q = rw q (go (too_long s) (utf8 s))
    where
      n : Bool → Bool → ℕ
      n l u = pick l 1 (pick u 0 2)

      go : (l u : Bool) → size_values (size_answer (pick (eqb (n l u) 0) (sized 0 (length s / 3)) (sized (n l u) 0))) ≡ size_numbers (pick (eqb (n l u) 0) (sized 0 (length s / 3)) (sized (n l u) 0))
      go true u = refl
      go false true = refl
      go false false = refl

  pub locator_values_lem : {a : Result Locator Refusal} → a ≡ locator_answer (locator_call s) → locator_values a ≡ locator_numbers (locator_call s)
  unfolding locator_answer locator_call locator_values locator_numbers code_of value_of suffix_of text_refusal after_text refusal_of
  locator_values_lem q = rw q (go (too_long s) (utf8 s))
    where
      n : Bool → Bool → ℕ
      n l u = pick l 1 (pick u 0 2)

      go : (l u : Bool) → locator_values (locator_answer (pick (eqb (n l u) 0) (located 0 (locator_of s 0 (length s))) (located (n l u) Nothing)))
          ≡ locator_numbers (pick (eqb (n l u) 0) (located 0 (locator_of s 0 (length s))) (located (n l u) Nothing))
      go true u = refl
      go false true = refl
      go false false = refl
