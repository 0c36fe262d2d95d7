-- Two lists of bytes joined by a space:
-- which bytes are white, and where the whole begins and ends, trimmed.
use Prim.Native.Nat.{ℕ, zero, suc, ◌+◌, ◌-◌, ◌≤◌, ◌<◌}
use native.Mathlib.Omega.{arith}
use mathlib.Core.Path.{◌≡◌, refl, sym, ◌∙◌, ap}
use mathlib.Core.List.{List, ◌∷◌, ◌++◌}
use mathlib.Core.Logic.{◌⊎◌, inl, inr}
use mathlib.Core.Bool.{Bool, true, false, not, ◌||◌, or-false}
use lib.ListN.{length, take, drop, length-append, length-drop, get_or-append}
use lib.Seq.{get_or-append_seam, get_or-append-add, take-append-le, drop-append-le, take-append-add, drop-append-add}
use lib.Dec.{ltb}
use borrow.Author.Tests.{lt-ltb, le-ltb, ltb-true, ltb-false}
use Rattle.base.specs.First.{first}
use Rattle.base.specs.Lists.{byte_at, part}
use Rattle.base.proofs.Bools.{split}
use Rattle.base.proofs.Searches.{first_near, first_far, first_shift}
use Rattle.base.proofs.Parts.{byte_past, part_is}
use Rattle.white.specs.White.{space_width, is_white}
use Rattle.text.specs.Trim.{trim_start, trim_end, trim}
use Rattle.white.proofs.Whites.{width_by, width_is, width_second, width_third, second_by, white_ascii}
use Rattle.text.proofs.Laws.{end_more}
use Rattle.text.proofs.Trims.{start_by, end_from, end_by, end_in_second, end_in_first, end_shift}

-- the tests of `is_white` at the start of a list, where the places before stop at 0
test_first : (w : ℕ) → (ltb 0 w || ltb 1 w || ltb 2 w) ≡ ltb 0 w
test_first zero = refl
test_first (suc w) = rw (lt-ltb 0 (suc w) (omega arith)) refl

test_second : (t : Bool) (w : ℕ) → (t || ltb 1 w || ltb 2 w) ≡ (t || ltb 1 w)
test_second true w = refl
test_second false w = go (split (ltb 1 w))
  where
    go : (ltb 1 w ≡ true) ⊎ (ltb 1 w ≡ false) → (ltb 1 w || ltb 2 w) ≡ ltb 1 w
    go (inl p) = rw p refl
    go (inr p) = let q = ltb-false 1 w p in rw (p, le-ltb 2 w (omega arith)) refl

module _ (A Y : List ℕ) where
  -- the two joined by a space
  abbrev pub Join : List ℕ
  Join = A ++ (32 ∷ Y)

  join_length : length Join ≡ length A + (1 + length Y)
  join_length = simp length-append (omega arith)

  byte_left : (i : ℕ) → i < length A → byte_at Join i ≡ byte_at A i
  byte_left i h = get_or-append A (32 ∷ Y) 0 i h

  byte_space : (i : ℕ) → i ≡ length A → byte_at Join i ≡ 32
  byte_space i e = rw e (get_or-append_seam A 32 Y 0)

  byte_right : (i j : ℕ) → i ≡ length A + suc j → byte_at Join i ≡ byte_at Y j
  byte_right i j e = rw e (get_or-append-add A (32 ∷ Y) (suc j) 0)

  -- in the first list
  width_left : (i : ℕ) → i < length A → space_width Join i ≡ space_width A i
  width_left i h = go (split (ltb (i + 1) (length A))) (split (ltb (i + 2) (length A)))
    where
      go : (ltb (i + 1) (length A) ≡ true) ⊎ (ltb (i + 1) (length A) ≡ false) → (ltb (i + 2) (length A) ≡ true) ⊎ (ltb (i + 2) (length A) ≡ false)
          → space_width Join i ≡ space_width A i
      go (inr p) r =
          let q = ltb-false (i + 1) (length A) p in
          rw (width_is Join i, width_is A i, byte_left i h, byte_space (i + 1) (omega arith), ← byte_past A (i + 1) (omega arith))
          (width_second (byte_at A i) 32 (byte_at Join (i + 2)) (omega arith) ∙ sym (width_second (byte_at A i) 0 (byte_at A (i + 2)) (omega arith)))
      go (inl p) (inr r) =
          let q = ltb-true (i + 1) (length A) p in
          let z = ltb-false (i + 2) (length A) r in
          rw (width_is Join i, width_is A i, byte_left i h, byte_left (i + 1) q, byte_space (i + 2) (omega arith), ← byte_past A (i + 2) (omega arith))
          (width_third (byte_at A i) (byte_at A (i + 1)) 32 (omega arith) ∙ sym (width_third (byte_at A i) (byte_at A (i + 1)) 0 (omega arith)))
      go (inl p) (inl r) =
          let q = ltb-true (i + 1) (length A) p in
          let z = ltb-true (i + 2) (length A) r in
          rw (width_is Join i, width_is A i, byte_left i h, byte_left (i + 1) q, byte_left (i + 2) z) refl

  white_left : (i : ℕ) → i < length A → is_white Join i ≡ is_white A i
  unfolding is_white
  white_left i h = rw (width_left i h, width_left (i - 1) (omega arith), width_left (i - 2) (omega arith)) refl

  -- the space
  white_space : is_white Join (length A) ≡ true
  white_space = let b = byte_space (length A) refl in white_ascii Join (length A) (rw b (omega arith)) ∙ rw b refl

  width_space : (i : ℕ) → i ≡ length A → space_width Join i ≡ 1
  unfolding width_by
  width_space i e = rw (width_is Join i, byte_space i e) refl

  -- the byte before the space begins no longer character
  width_before : (i : ℕ) → i ≡ length A - 1 → space_width Join i ≤ 1
  width_before i e = go (split (ltb i (length A)))
    where
      go : (ltb i (length A) ≡ true) ⊎ (ltb i (length A) ≡ false) → space_width Join i ≤ 1
      go (inl p) = let q = ltb-true i (length A) p in second_by Join i (rw (byte_space (i + 1) (omega arith)) (omega arith))
      go (inr p) = let q = ltb-false i (length A) p in rw (width_space i (omega arith)) (omega arith)

  -- in the second list
  width_right : (i j : ℕ) → i ≡ length A + suc j → space_width Join i ≡ space_width Y j
  width_right i j e =
      rw (width_is Join i, width_is Y j, byte_right i j e, byte_right (i + 1) (j + 1) (omega arith), byte_right (i + 2) (j + 2) (omega arith)) refl

  white_right : (i j : ℕ) → i ≡ length A + suc j → is_white Join i ≡ is_white Y j
  unfolding is_white
  white_right i zero e =
      rw (width_right i 0 e, width_space (i - 1) (omega arith), le-ltb 2 (space_width Join (i - 2)) (let w = width_before (i - 2) (omega arith) in omega arith), test_first) (simp or-false)
  white_right i (suc zero) e =
      rw (width_right i 1 e, width_right (i - 1) 0 (omega arith), width_space (i - 2) (omega arith), or-false)
      (sym (test_second (ltb 0 (space_width Y 1)) (space_width Y 0)))
  white_right i (suc (suc j)) e =
      rw (width_right i (suc (suc j)) e, width_right (i - 1) (suc (suc j) - 1) (omega arith), width_right (i - 2) (suc (suc j) - 2) (omega arith)) refl

module _ (A Y : List ℕ) where
  left : (j : ℕ) → j < length A → is_white A j ≡ is_white (Join A Y) (j + 0)
  left j h = let z : j + 0 ≡ j = omega arith in rw z (sym (white_left A Y j h))

  right : (j : ℕ) → is_white Y j ≡ is_white (Join A Y) (j + (length A + 1))
  right j = sym (white_right A Y (j + (length A + 1)) j (omega arith))

  -- where the first list's content begins, seen in the whole
  first_left : first (λ i. not (is_white (Join A Y) i)) (length A) 0 ≡ trim_start A 0 (length A)
  unfolding trim_start
  first_left =
      let z : length A - 0 ≡ length A = omega arith in
      rw z
      (sym (first_shift (λ i. not (is_white A i)) (λ i. not (is_white (Join A Y) i)) 0 (length A) 0 (λ j l. ap not (left j (omega arith)))) ∙ omega arith)

  start_first : trim_start A 0 (length A) < length A → trim_start (Join A Y) 0 (length (Join A Y)) ≡ trim_start A 0 (length A)
  unfolding trim_start
  start_first h =
      let z : length (Join A Y) - 0 ≡ length A + (1 + length Y) = omega (arith, join_length A Y) in
      let f = first_left in
      rw z (first_near (λ i. not (is_white (Join A Y) i)) (length A) (1 + length Y) 0 (omega arith) ∙ f)

  first_space : first (λ i. not (is_white (Join A Y) i)) (1 + length Y) (length A) ≡ first (λ i. not (is_white (Join A Y) i)) (length Y) (length A + 1)
  unfolding first
  first_space = let z : 1 + length Y ≡ suc (length Y) = omega arith in rw (z, white_space A Y) refl

  start_second : length A ≤ trim_start A 0 (length A) → trim_start (Join A Y) 0 (length (Join A Y)) ≡ length A + 1 + trim_start Y 0 (length Y)
  unfolding trim_start
  start_second h =
      let z : length (Join A Y) - 0 ≡ length A + (1 + length Y) = omega (arith, join_length A Y) in
      let f = first_left in
      let y : length Y - 0 ≡ length Y = omega arith in
      let x : 0 + length A ≡ length A = omega arith in
      let w : length A + 1 ≡ 0 + (length A + 1) = omega arith in
      rw (z, y)
      (first_far (λ i. not (is_white (Join A Y) i)) (length A) (1 + length Y) 0 (omega arith)
      ∙ ap (first (λ i. not (is_white (Join A Y) i)) (1 + length Y)) x
      ∙ first_space
      ∙ ap (first (λ i. not (is_white (Join A Y) i)) (length Y)) w
      ∙ sym (first_shift (λ i. not (is_white Y i)) (λ i. not (is_white (Join A Y) i)) (length A + 1) (length Y) 0 (λ j l. ap not (right j)))
      ∙ omega arith)

  -- where the second list's content from `x` on ends, seen in the whole
  end_right : (x : ℕ) → x ≤ length Y → trim_end (Join A Y) (length A + 1 + x) (length (Join A Y)) ≡ length A + 1 + trim_end Y x (length Y)
  end_right x h =
      let z : length A + 1 + x ≡ x + (length A + 1) = omega arith in
      let y : length (Join A Y) ≡ length Y + (length A + 1) = omega (arith, join_length A Y) in
      rw (z, y) (sym (end_shift (Join A Y) Y (length A + 1) x (length Y) h (λ j l. right j)) ∙ omega arith)

  -- the first list's from `k` on, with the space
  end_left : (k : ℕ) → k ≤ length A → trim_end (Join A Y) k (length A + 1) ≡ trim_end A k (length A)
  end_left k h =
      let p : length A + 0 ≡ length A = omega arith in
      let q : k + 0 ≡ k = omega arith in
      let m : length A + 1 - 1 ≡ length A = omega arith in
      let r = end_shift (Join A Y) A 0 k (length A) h left in
      end_more (Join A Y) k (length A + 1) refl (omega arith) refl (rw m (white_space A Y)) ∙ rw m (sym (rw (p, q) at r) ∙ omega arith)

  module _ (k : ℕ) (h : k ≤ length A) where
    rest : trim_end (Join A Y) (length A + 1) (length (Join A Y)) ≡ length A + 1 + trim_end Y 0 (length Y)
    rest = let z : length A + 1 ≡ length A + 1 + 0 = omega arith in ap (λ x. trim_end (Join A Y) x (length (Join A Y))) z ∙ end_right 0 (omega arith)

    past : length A + 1 ≤ length (Join A Y)
    past = omega (arith, join_length A Y)

    end_second : 0 < trim_end Y 0 (length Y) → trim_end (Join A Y) k (length (Join A Y)) ≡ length A + 1 + trim_end Y 0 (length Y)
    end_second q = end_in_second (Join A Y) k (length A + 1) (length (Join A Y)) (omega arith) past (rw rest (omega arith)) ∙ rest

    end_first : trim_end Y 0 (length Y) ≤ 0 → trim_end (Join A Y) k (length (Join A Y)) ≡ trim_end A k (length A)
    end_first q = end_in_first (Join A Y) k (length A + 1) (length (Join A Y)) (omega arith) past (rw rest (omega arith)) ∙ end_left k h

-- parts of the whole
module _ (A Y : List ℕ) where
  part_left : (k e : ℕ) → k ≤ e → e ≤ length A → part (Join A Y) k e ≡ part A k e
  part_left k e h g =
      let l : e ≤ length (Join A Y) = omega (arith, join_length A Y) in
      let n : e - k ≤ length (drop k A) = rw length-drop (omega arith) in
      rw (part_is (Join A Y) k e h l, part_is A k e h g, drop-append-le k A (32 ∷ Y) (omega arith), take-append-le (e - k) (drop k A) (32 ∷ Y) n) refl

  part_right : (x e : ℕ) → x ≤ e → e ≤ length Y → part (Join A Y) (length A + 1 + x) (length A + 1 + e) ≡ part Y x e
  part_right x e h g =
      let l : length A + 1 + e ≤ length (Join A Y) = omega (arith, join_length A Y) in
      let d : length A + 1 + e - (length A + 1 + x) ≡ e - x = omega arith in
      let p : length A + 1 + x ≡ length A + suc x = omega arith in
      rw (part_is (Join A Y) (length A + 1 + x) (length A + 1 + e) (omega arith) l, part_is Y x e h g, d, p, drop-append-add A (32 ∷ Y) (suc x)) refl

  part_across : (k e : ℕ) → k ≤ length A → e ≤ length Y → part (Join A Y) k (length A + 1 + e) ≡ drop k A ++ (32 ∷ take e Y)
  part_across k e h g =
      let l : length A + 1 + e ≤ length (Join A Y) = omega (arith, join_length A Y) in
      let d : length A + 1 + e - k ≡ length (drop k A) + suc e = rw length-drop (omega arith) in
      rw (part_is (Join A Y) k (length A + 1 + e) (omega arith) l, d, drop-append-le k A (32 ∷ Y) h, take-append-add (drop k A) (32 ∷ Y) (suc e)) refl

  -- the whole, trimmed: the first list has a byte that is not white, and so has the second; only the first has one; it has none
  pub trim_both : trim_start A 0 (length A) < length A → 0 < trim_end Y 0 (length Y)
      → trim (Join A Y) ≡ drop (trim_start A 0 (length A)) A ++ (32 ∷ take (trim_end Y 0 (length Y)) Y)
  unfolding trim
  trim_both h g =
      let k = trim_start A 0 (length A) in
      let l : k ≤ length A = omega arith in
      rw (start_first A Y h, end_second A Y k l g) (part_across k (trim_end Y 0 (length Y)) l (omega (arith, end_by Y 0 (length Y))))

  pub trim_first : trim_start A 0 (length A) < length A → trim_end Y 0 (length Y) ≤ 0
      → trim (Join A Y) ≡ part A (trim_start A 0 (length A)) (trim_end A (trim_start A 0 (length A)) (length A))
  unfolding trim
  trim_first h g =
      let k = trim_start A 0 (length A) in
      let l : k ≤ length A = omega arith in
      rw (start_first A Y h, end_first A Y k l g) (part_left k (trim_end A k (length A)) (end_from A k (length A)) (omega (arith, end_by A k (length A))))

  pub trim_second : length A ≤ trim_start A 0 (length A)
      → trim (Join A Y) ≡ part Y (trim_start Y 0 (length Y)) (trim_end Y (trim_start Y 0 (length Y)) (length Y))
  unfolding trim
  trim_second h =
      let k = trim_start Y 0 (length Y) in
      let l : k ≤ length Y = omega (arith, start_by Y 0 (length Y)) in
      rw (start_second A Y h, end_right A Y k l) (part_right k (trim_end Y k (length Y)) (end_from Y k (length Y)) (omega (arith, end_by Y k (length Y))))
