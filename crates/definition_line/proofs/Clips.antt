-- Attributes of a line whose close, or whose next group, lies past the text,
-- in the form of the goals of `attributes`.
use Prim.Native.Nat.{ℕ, ◌+◌, ◌-◌, min, ◌≤◌, ◌<◌}
use native.Mathlib.Omega.{arith}
use mathlib.Core.Path.{◌≡◌, refl, sym, ◌∙◌}
use mathlib.Core.List.{List, []}
use mathlib.Core.Bool.{Bool, true, false, not, ◌&&◌, and-false}
use lib.ListN.{length}
use lib.Dec.{eqb, ltb}
use borrow.Author.Tests.{lt-ltb, le-ltb, ltb-true, ltb-false, ne_eqb}
use Rattle.base.specs.Pick.{pick}
use Rattle.base.specs.First.{first_of, first_other}
use Rattle.base.specs.Lists.{byte_at, is_at, part}
use Rattle.base.proofs.Searches.{first_from, first_by, first_beyond}
use Rattle.base.proofs.Parts.{byte_past}
use Rattle.definition_line.specs.Lines.{break_at, brace_at, after_spaces, braced_at, attributes_of}

past : (s : List ℕ) (b : ℕ) → 0 < b → (k : ℕ) → length s ≤ k → eqb (byte_at s k) b ≡ false
past s b n k h = rw (← byte_past s k h) (ne_eqb 0 b (λ e. omega arith))

module _ (s : List ℕ) (a x : ℕ) (h : length s < x) (k : a < length s) where
  brace_clip : braced_at s a x ≡ braced_at s a (length s)
  unfolding braced_at brace_at
  brace_clip = go (ltb z (length s)) refl (first_beyond (λ i. eqb (byte_at s i) 125) a (length s) x (omega arith) (omega arith) (past s 125 (omega arith)))
    where
      z : ℕ
      z = first_of 125 s a (length s)

      go : (t : Bool) → ltb z (length s) ≡ t → pick (ltb z (length s)) z x ≡ first_of 125 s a x
          → pick (is_at s a 123 && ltb (first_of 125 s a x) x) (part s (a + 1) (first_of 125 s a x)) []
          ≡ pick (is_at s a 123 && ltb z (length s)) (part s (a + 1) z) []
      go true q e =
          let l = ltb-true z (length s) q in
          let m : z ≡ first_of 125 s a x = rw q at e in
          rw (← m, q, lt-ltb z x (omega arith)) refl
      go false q e =
          let m : x ≡ first_of 125 s a x = rw q at e in
          rw (← m, q, le-ltb x x (omega arith), and-false) refl

  break_clip : braced_at s a (break_at s a x) ≡ braced_at s a (break_at s a (length s))
  unfolding break_at
  break_clip = go (ltb y (length s)) refl (first_beyond (λ i. eqb (byte_at s i) 10) a (length s) x (omega arith) (omega arith) (past s 10 (omega arith)))
    where
      y : ℕ
      y = first_of 10 s a (length s)

      go : (t : Bool) → ltb y (length s) ≡ t → pick (ltb y (length s)) y x ≡ first_of 10 s a x → braced_at s a (first_of 10 s a x) ≡ braced_at s a y
      go true q e = let m : y ≡ first_of 10 s a x = rw q at e in rw (← m) refl
      go false q e =
          let m : x ≡ first_of 10 s a x = rw q at e in
          let l = ltb-false y (length s) q in
          let b = first_by (λ i. eqb (byte_at s i) 10) (length s - a) a in
          let n : length s ≡ y = omega arith in
          rw (← m, ← n) brace_clip

-- a run that begins past the text has no braces
brace_past : (s : List ℕ) (a e : ℕ) → length s ≤ a → [] ≡ braced_at s a e
unfolding braced_at
brace_past s a e h = rw (le-ltb a (length s) h) refl

attributes_past : (s : List ℕ) (close next : ℕ) → length s ≤ close → attributes_of s close next ≡ []
unfolding attributes_of after_spaces
attributes_past s close next h =
    let a = first_other 32 s (close + 2) (length s) in
    sym (brace_past s a (break_at s a next) (omega (arith, first_from (λ i. not (eqb (byte_at s i) 32)) (length s - (close + 2)) (close + 2))))

attributes_clip : (s : List ℕ) (close next : ℕ) → length s < next → attributes_of s close next ≡ attributes_of s close (length s)
unfolding attributes_of
attributes_clip s close next h = go (ltb a (length s)) refl
  where
    a : ℕ
    a = after_spaces s close

    go : (t : Bool) → ltb a (length s) ≡ t → braced_at s a (break_at s a next) ≡ braced_at s a (break_at s a (length s))
    go true q = break_clip s a next h (ltb-true a (length s) q)
    go false q =
        let l = ltb-false a (length s) q in
        sym (brace_past s a (break_at s a next) l) ∙ brace_past s a (break_at s a (length s)) l

-- what `attributes` needs
module _ (s : List ℕ) (close next : ℕ) where
  pub clip_past : length s ≤ close → [] ≡ attributes_of s close next
  clip_past h = sym (attributes_past s close next h)

  pub clip_end : attributes_of s close (min next (length s)) ≡ attributes_of s close next
  clip_end = go (ltb (length s) next) refl
    where
      go : (t : Bool) → ltb (length s) next ≡ t → attributes_of s close (min next (length s)) ≡ attributes_of s close next
      go true q =
          let l = ltb-true (length s) next q in
          let e : min next (length s) ≡ length s = omega arith in
          rw e (sym (attributes_clip s close next l))
      go false q =
          let l = ltb-false (length s) next q in
          let e : min next (length s) ≡ next = omega arith in
          rw e refl

pub ruleset clip_laws = (clip_past, clip_end)
