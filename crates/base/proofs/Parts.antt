-- Bytes and parts of a list: the bytes of a part, a part of a part,
-- and what is no part.
use Prim.Native.Nat.{ℕ, ◌+◌, ◌-◌, ◌≤◌, ◌<◌}
use native.Mathlib.Omega.{arith}
use mathlib.Core.Path.{◌≡◌, refl, sym, ◌∙◌, ap}
use mathlib.Core.List.{List, []}
use mathlib.Core.Bool.{Bool, true, false}
use lib.ListN.{length, take, drop, length-take, length-drop, get_or-eq_default}
use lib.Seq.{get_or-take, get_or-drop, ext_get_or}
use lib.Dec.{ltb}
use borrow.Author.Tests.{le-leb, lt-leb, ltb-true, ltb-false}
use Rattle.base.specs.Lists.{byte_at, part}

pub byte_past : (s : List ℕ) (i : ℕ) → length s ≤ i → 0 ≡ byte_at s i
byte_past s i h = sym (get_or-eq_default s 0 h)

-- a byte that is not 0 is there
pub byte_there : (s : List ℕ) (i : ℕ) → 0 < byte_at s i → i < length s
byte_there s i h = go (ltb i (length s)) refl
  where
    go : (t : Bool) → ltb i (length s) ≡ t → i < length s
    go true q = ltb-true i (length s) q
    go false q = let z = byte_past s i (ltb-false i (length s) q) in absurd (omega arith)

module _ (s : List ℕ) (a e : ℕ) (l : a ≤ e) (h : e ≤ length s) where
  pub part_is : part s a e ≡ take (e - a) (drop a s)
  unfolding part
  part_is = rw (le-leb a e l, le-leb e (length s) h) refl

  pub part_length : length (part s a e) ≡ e - a
  part_length = rw part_is (simp (length-take, length-drop) (omega arith))

  pub part_byte : (i : ℕ) → a + i < e → byte_at (part s a e) i ≡ byte_at s (a + i)
  part_byte i q = rw (part_is, get_or-take (e - a) (drop a s) i 0 (omega arith), get_or-drop) refl

-- a part of a part
module _ (s : List ℕ) (a e : ℕ) (l : a ≤ e) (h : e ≤ length s) where
  pub part_part : (x y : ℕ) → x ≤ y → a + y ≤ e → part (part s a e) x y ≡ part s (a + x) (a + y)
  part_part x y k m =
      let n = part_length s a e l h in
      let p = part_length (part s a e) x y k (omega arith) in
      let q = part_length s (a + x) (a + y) (omega arith) (omega arith) in
      ext_get_or 0 (part (part s a e) x y) (part s (a + x) (a + y)) (p ∙ sym (q ∙ omega arith))
      (λ i b.
      let z : a + (x + i) ≡ a + x + i = omega arith in
      part_byte (part s a e) x y k (omega arith) i (omega arith)
      ∙ part_byte s a e l h (x + i) (omega arith)
      ∙ ap (byte_at s) z
      ∙ sym (part_byte s (a + x) (a + y) (omega arith) (omega arith) i (omega arith)))

-- `n` bytes from `a` on, in the form of the goals
module _ (s : List ℕ) (a n : ℕ) where
  pub part_in : a ≤ length s → n ≤ length s - a → take (a + n - a) (drop a s) ≡ part s a (a + n)
  part_in p q = sym (part_is s a (a + n) (omega arith) (omega arith))

  pub part_past : a ≤ length s → length s - a < n → [] ≡ part s a (a + n)
  unfolding part
  part_past p q = rw (le-leb a (a + n) (omega arith), lt-leb (a + n) (length s) (omega arith)) refl

  pub part_outside : length s < a → [] ≡ part s a (a + n)
  unfolding part
  part_outside p = rw (le-leb a (a + n) (omega arith), lt-leb (a + n) (length s) (omega arith)) refl

pub ruleset part_laws = (part_in, part_past, part_outside)
