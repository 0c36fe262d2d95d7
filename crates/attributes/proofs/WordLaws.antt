-- The bytes stripped from both ends of a value,
-- and the words of attributes, in the form of the goals.
use Prim.Native.Nat.{ℕ, zero, suc, ◌+◌, ◌-◌, ◌≤◌, ◌<◌}
use native.Mathlib.Omega.{arith}
use mathlib.Core.Path.{◌≡◌, refl, sym, ◌∙◌}
use mathlib.Core.List.{List, [], ◌∷◌}
use mathlib.Core.Bool.{Bool, true, false, not}
use lib.ListN.{length, take, drop, length-drop}
use lib.Dec.{eqb, ltb}
use Rattle.std.proofs.lemmas.List.{take_all}
use lib.Pointwise.{pointwise}
use borrow.Author.Tests.{lt-ltb, le-ltb, ltb-true}
use mathlib.Core.Option.{Option, none, some}
use Rattle.base.specs.Pick.{pick}
use Rattle.base.specs.First.{first_of, first_other}
use Rattle.base.specs.Lists.{byte_at, part, same}
use Rattle.base.proofs.Searches.{first_from, first_by, first_more}
use Rattle.base.proofs.Lasts.{last_end_from, last_end_by}
use Rattle.base.proofs.Sames.{same_pointwise}
use Rattle.base.proofs.Parts.{part_is}
use Rattle.white.specs.White.{is_white}
use Rattle.white.specs.Bytes.{is_ascii_graphic}
use Rattle.white.proofs.Whites.{graphic_plain}
use Rattle.text.proofs.Trims.{start_from, start_plain}
use Rattle.attributes.specs.Attributes.{word_start, word_end, words_in, equals_at, end_without, stripped, bare, value_in}

-- bytes stripped from both ends --------------------------------------------------------------------------------------------------

module _ (b : ℕ) (s : List ℕ) {x : ℕ} (p : x ≡ first_other b s 0 (length s)) where
  pub start_le : x ≤ length s
  start_le = omega (arith, first_by (λ i. not (eqb (byte_at s i) b)) (length s - 0) 0)

  module _ {y : ℕ} (q : y ≡ end_without b s x (length s)) where
    pub start_end : x ≤ y
    start_end = omega (arith, last_end_from (λ k. not (eqb (byte_at s k) b)) (length s - x) x x (omega arith))

    pub end_le : y ≤ length s
    end_le = omega (arith, start_le, last_end_by (λ k. not (eqb (byte_at s k) b)) (length s - x) x x (omega arith))

    pub stripped_is : take (y - x) (drop x s) ≡ stripped b s
    unfolding stripped
    stripped_is = sym (part_is s x y start_end end_le) ∙ rw (q, p) refl

pub ruleset strip_laws = (start_le, start_end, end_le, stripped_is)

-- where a word ends --------------------------------------------------------------------------------------------------------------

-- an ASCII graphic character does not end a word
pub graphic_goes_on : (s : List ℕ) (i : ℕ) {b : Bool} → b ≡ is_ascii_graphic (byte_at s i) → b ≡ true → false ≡ is_white s i
graphic_goes_on s i p t = sym (graphic_plain s i (sym p ∙ t))

-- the words that are left --------------------------------------------------------------------------------------------------------

module _ (s : List ℕ) (i : ℕ) (l : word_start s i < length s) where
  word_stops : word_end s (word_start s i) ≤ length s
  unfolding word_end
  word_stops = omega (arith, first_by (λ k. is_white s k) (length s - word_start s i) (word_start s i))

  word_goes : word_start s i < word_end s (word_start s i)
  unfolding word_end
  word_goes =
      let m = first_more (λ k. is_white s k) (word_start s i) (length s) refl l (start_plain s i (length s) l) in
      omega (arith, first_from (λ k. is_white s k) (length s - (word_start s i + 1)) (word_start s i + 1))

-- more turns than bytes change nothing
words_enough : (n m : ℕ) (s : List ℕ) (i : ℕ) → length s - i ≤ n → length s - i ≤ m → words_in n s i ≡ words_in m s i
unfolding words_in
words_enough zero zero s i h g = refl
words_enough zero (suc m) s i h g = rw (le-ltb (word_start s i) (length s) (omega (arith, start_from s i (length s)))) refl
words_enough (suc n) zero s i h g = rw (le-ltb (word_start s i) (length s) (omega (arith, start_from s i (length s)))) refl
words_enough (suc n) (suc m) s i h g = go (ltb (word_start s i) (length s)) refl (words_enough n m s (word_end s (word_start s i)))
  where
    go : (t : Bool) → ltb (word_start s i) (length s) ≡ t
        → (length s - word_end s (word_start s i) ≤ n → length s - word_end s (word_start s i) ≤ m
        → words_in n s (word_end s (word_start s i)) ≡ words_in m s (word_end s (word_start s i)))
        → pick t (part s (word_start s i) (word_end s (word_start s i)) ∷ words_in n s (word_end s (word_start s i))) []
        ≡ pick t (part s (word_start s i) (word_end s (word_start s i)) ∷ words_in m s (word_end s (word_start s i))) []
    go true q rec =
        let l = word_goes s i (ltb-true _ _ q) in
        let k = start_from s i (length s) in
        rw (rec (omega arith) (omega arith)) refl
    go false q rec = refl

module _ (s : List ℕ) (i : ℕ) {a : ℕ} (p : a ≡ word_start s i) where
  pub words_none : length s ≤ a → words_in (length s) s i ≡ []
  unfolding words_in
  words_none h = go (length s) h
    where
      go : (n : ℕ) → length s ≤ a → words_in n s i ≡ []
      go zero l = refl
      go (suc n) l = rw (← p, le-ltb a (length s) l) refl

  module _ {e : ℕ} (l : a < length s) (q : e ≡ word_end s a) where
    pub word_le : e ≤ length s
    word_le = rw (q, p) (word_stops s i (rw p at l))

    pub word_ge : a ≤ e
    word_ge = let h = word_goes s i (rw p at l) in rw (q, p) (omega arith)

    pub words_next : words_in (length s) s i ≡ take (e - a) (drop a s) ∷ words_in (length s) s e
    unfolding words_in
    words_next =
        let w : word_start s i < length s = rw p at l in
        let h = word_goes s i w in
        let k = start_from s i (length s) in
        words_enough (length s) (suc (length s)) s i (omega arith) (omega arith)
        ∙ first_word
      where
        first_word : words_in (suc (length s)) s i ≡ take (e - a) (drop a s) ∷ words_in (length s) s e
        first_word = rw (← p, lt-ltb a (length s) l, ← q, part_is s a e word_ge word_le) refl

pub ruleset word_laws = (words_none, word_le, word_ge, words_next)

-- the value in them --------------------------------------------------------------------------------------------------------------

module _ (key : List ℕ) {w : Option (List ℕ)} {ws : List (List ℕ)} (g : w ≡ value_in key ws) where
  pub value_end : ws ≡ [] → none ≡ w
  unfolding value_in
  value_end e = sym (g ∙ rw e refl)

  module _ (word : List ℕ) (others : List (List ℕ)) (x : ws ≡ word ∷ others) {z : ℕ} (f : z ≡ first_of 61 word 0 (length word)) where
    at_equals : equals_at word ≡ z
    unfolding equals_at
    at_equals = sym f

    pub value_plain : length word ≤ z → none ≡ w
    unfolding value_in
    value_plain h = sym (g ∙ rw (x, at_equals, le-ltb z (length word) h) refl)

    module _ (h : z < length word) {b : Bool} (n : b ≡ pointwise eqb (take z word) key) where
      name : b ≡ same (take z word) key
      name = n ∙ same_pointwise (take z word) key

      pub value_given : {v : List ℕ} → b ≡ true → v ≡ bare (take (length word - (z + 1)) (drop (z + 1) word)) → some v ≡ w
      unfolding value_in
      value_given t d =
          let u : take (length word - (z + 1)) (drop (z + 1) word) ≡ drop (z + 1) word = take_all _ (drop (z + 1) word) (rw length-drop (omega arith)) in
          sym (g ∙ rw (x, at_equals, lt-ltb z (length word) h, sym name ∙ t, ← u, ← d) refl)

      pub value_next : b ≡ false → w ≡ value_in key others
      unfolding value_in
      value_next t = g ∙ rw (x, at_equals, lt-ltb z (length word) h, sym name ∙ t) refl

pub ruleset value_laws = (value_end, value_plain, value_given, value_next)
