-- Where the attributes of a definition line lie,
-- in the form of the goals.
use Prim.Native.Nat.{ℕ, ◌+◌, ◌-◌, ◌≤◌, ◌<◌}
use native.Mathlib.Omega.{arith}
use mathlib.Core.Path.{◌≡◌, refl, sym, ◌∙◌, ap}
use mathlib.Core.List.{List, []}
use mathlib.Core.Bool.{Bool, true, false, ◌||◌, and-false, or-true}
use lib.ListN.{length, take, drop}
use lib.Dec.{eqb, ltb}
use borrow.Author.Tests.{eq-eqb, ne_eqb, lt-ltb, le-ltb, eqb-true, eqb-false, ltb-true, ltb-false}
use Rattle.base.specs.First.{first_of}
use Rattle.base.specs.Lists.{byte_at}
use Rattle.base.proofs.Searches.{first_from, first_by, first_holds, first_before}
use Rattle.base.proofs.Parts.{part_is}
use Rattle.definition_line.specs.Lines.{break_at, brace_at, after_spaces, braced_at, attributes_of}
use Rattle.definition_line.specs.Search.{brace_or_break}

-- a search for `}` up to the first LF, and one that ends at either ------------------------------------------------------------------

abbrev is_brace : List ℕ → ℕ → Bool
is_brace s i = eqb (byte_at s i) 125

abbrev is_break : List ℕ → ℕ → Bool
is_break s i = eqb (byte_at s i) 10

abbrev is_either : List ℕ → ℕ → Bool
is_either s i = is_brace s i || is_break s i

module _ (s : List ℕ) (a e : ℕ) {z : ℕ} (p : z ≡ brace_or_break s a e) where
  either_ge : a ≤ z
  unfolding brace_or_break
  either_ge = omega (arith, first_from (is_either s) (e - a) a)

  either_by : (x : ℕ) → a ≤ x → is_either s x ≡ true → z ≤ x
  unfolding brace_or_break
  either_by x l t = rw p (first_before (is_either s) (e - a) a x l t)

  either_holds : z < e → is_either s z ≡ true
  unfolding brace_or_break
  either_holds h = rw p (first_holds (is_either s) (e - a) a (omega (arith, either_ge)))

  -- where `}` comes first, the LF comes after it
  break_after : z < e → byte_at s z ≡ 125 → z < break_at s a e
  unfolding break_at
  break_after h c = go (ltb y e) refl
    where
      y : ℕ
      y = first_of 10 s a e

      apart : (t : Bool) → eqb z y ≡ t → z ≤ y → byte_at s y ≡ 10 → z < y
      apart true q l k = let u = ap (byte_at s) (eqb-true z y q) in absurd (omega arith)
      apart false q l k = let u = eqb-false z y q in omega arith

      go : (t : Bool) → ltb y e ≡ t → z < y
      go true q =
          let l = first_from (is_break s) (e - a) a in
          let u = ltb-true y e q in
          let b : is_break s y ≡ true = first_holds (is_break s) (e - a) a (omega arith) in
          apart (eqb z y) refl (either_by y l (rw (b, or-true) refl)) (eqb-true _ 10 b)
      go false q = omega (arith, ltb-false y e q)

  brace_is : z < e → byte_at s z ≡ 125 → brace_at s a (break_at s a e) ≡ z
  unfolding brace_at
  brace_is h c =
      let y = break_at s a e in
      let u = break_after h c in
      let from = first_from (is_brace s) (y - a) a in
      let by = first_before (is_brace s) (y - a) a z either_ge (eq-eqb _ 125 c) in
      let b : is_brace s (first_of 125 s a y) ≡ true = first_holds (is_brace s) (y - a) a (omega (arith, either_ge)) in
      omega (arith, either_by (first_of 125 s a y) from (rw b refl))

  -- otherwise no `}` stands before it
  brace_none : (z < e → byte_at s z ≡ 125 → ⊥) → break_at s a e ≤ brace_at s a (break_at s a e)
  unfolding brace_at break_at
  brace_none n = go (ltb b y) refl
    where
      y : ℕ
      y = first_of 10 s a e

      b : ℕ
      b = first_of 125 s a y

      broken : is_either s z ≡ true → z < e → y ≤ z
      broken t l = first_before (is_break s) (e - a) a z either_ge (rw (ne_eqb (byte_at s z) 125 (n l)) at t)

      go : (t : Bool) → ltb b y ≡ t → y ≤ b
      go true q =
          let u = ltb-true b y q in
          let from = first_from (is_brace s) (y - a) a in
          let by = first_by (is_break s) (e - a) a in
          let t : is_brace s b ≡ true = first_holds (is_brace s) (y - a) a (omega arith) in
          let l = either_by b from (rw t refl) in
          let k : z < e = omega arith in
          omega (arith, broken (either_holds k) k)
      go false q = ltb-false b y q

-- the attributes of a definition line -----------------------------------------------------------------------------------------------

module _ (s : List ℕ) (close next : ℕ) where
  abbrev start : ℕ
  start = after_spaces s close

  abbrev brace : ℕ
  brace = brace_or_break s (after_spaces s close) next

  pub braces_past : length s ≤ after_spaces s close → [] ≡ attributes_of s close next
  unfolding attributes_of braced_at
  braces_past h = rw (le-ltb start (length s) h) refl

  pub braces_other : (byte_at s (after_spaces s close) ≡ 123 → ⊥) → [] ≡ attributes_of s close next
  unfolding attributes_of braced_at
  braces_other n = rw (ne_eqb _ _ n, and-false) refl

  none : (brace < next → byte_at s brace ≡ 125 → ⊥) → [] ≡ attributes_of s close next
  unfolding attributes_of braced_at
  none n = rw (le-ltb (brace_at s start (break_at s start next)) (break_at s start next) (brace_none s start next refl n), and-false) refl

  pub braces_end : next ≤ brace_or_break s (after_spaces s close) next → [] ≡ attributes_of s close next
  braces_end h = none (λ l c. omega arith)

  pub braces_broken : (byte_at s (brace_or_break s (after_spaces s close) next) ≡ 125 → ⊥) → [] ≡ attributes_of s close next
  braces_broken n = none (λ l c. n c)

  module _ (b : byte_at s (after_spaces s close) ≡ 123) (c : byte_at s (brace_or_break s (after_spaces s close) next) ≡ 125) where
    pub brace_after : after_spaces s close + 1 ≤ brace_or_break s (after_spaces s close) next
    brace_after = go (eqb start brace) refl
      where
        go : (t : Bool) → eqb start brace ≡ t → start + 1 ≤ brace
        go true q = let u = ap (byte_at s) (eqb-true start brace q) in absurd (omega arith)
        go false q = let u = eqb-false start brace q in omega (arith, either_ge s start next refl)

    pub braces_are : after_spaces s close < length s → next ≤ length s → brace_or_break s (after_spaces s close) next < next
        → take (brace_or_break s (after_spaces s close) next - (after_spaces s close + 1)) (drop (after_spaces s close + 1) s) ≡ attributes_of s close next
    unfolding attributes_of braced_at
    braces_are l m h =
        sym (part_is s (start + 1) brace brace_after (omega arith))
        ∙ rw (brace_is s start next refl h c, lt-ltb start (length s) l, eq-eqb _ 123 b, lt-ltb brace (break_at s start next) (break_after s start next refl h c)) refl

pub ruleset attributes_laws = (braces_past, braces_other, braces_end, braces_broken, brace_after, braces_are)
