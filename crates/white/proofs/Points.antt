-- THEOREMS of specs/Facts: a white character is the encoding of one of the 25 White_Space code points,
-- and each of these is one.
use Prim.Native.Nat.{ℕ, ◌+◌, ◌-◌, ◌≤◌, ◌<◌}
use native.Mathlib.Omega.{arith}
use mathlib.Core.Path.{◌≡◌, refl, sym, ◌∙◌, ap}
use mathlib.Core.List.{List, [], ◌∷◌}
use mathlib.Core.Bool.{Bool, true, false, ◌&&◌, ◌||◌, or-true}
use lib.ListN.{length}
use lib.Seq.{ext_get_or}
use lib.Dec.{eqb, leb, ltb}
use borrow.Author.Tests.{eqb-true, eqb-false, leb-true, le-leb, ltb-true, lt-ltb}
use Rattle.base.specs.Pick.{pick}
use Rattle.base.specs.Lists.{byte_at, within, part, up_from}
use Rattle.base.specs.Sorted.{Each}
use Rattle.base.proofs.Bools.{and_left, and_right, and_three, or_two, or_three, or_four}
use Rattle.base.proofs.Ranges.{within_is, each_up}
use Rattle.base.proofs.Parts.{byte_there, part_length, part_byte}
use Rattle.utf8.specs.Encoding.{encoding_of}
use Rattle.white.specs.White.{white_one, white_two, white_three, space_width, is_white}
use Rattle.white.specs.Facts.{white_spaces, WhiteSpaces25, white_bytes, StandsAt, WhiteHasWidth, WidthIsWhite, BytesAreWhite, WhiteIsByte}

pub white_spaces_25 : WhiteSpaces25
unfolding white_spaces
white_spaces_25 = refl

-- where bytes stand -------------------------------------------------------------------------------------------------------------------

-- a part that has a byte lies in the text
part_inside : (s : List ℕ) (i n : ℕ) (x : ℕ) (xs : List ℕ) → part s i (i + n) ≡ x ∷ xs → i + n ≤ length s
unfolding part
part_inside s i n x xs h = go (leb (i + n) (length s)) refl
  where
    go : (t : Bool) → leb (i + n) (length s) ≡ t → i + n ≤ length s
    go true q = leb-true (i + n) (length s) q
    go false q =
        let z : part s i (i + n) ≡ [] = rw (le-leb i (i + n) (omega arith), q) refl in
        let l : ◌≡◌ {A = ℕ} 0 (length (x ∷ xs)) = ap length (sym z ∙ h) in
        absurd (omega arith)

-- the byte `j` of a part
stand_byte : (s : List ℕ) (i n j : ℕ) (x : ℕ) (xs : List ℕ) → part s i (i + n) ≡ x ∷ xs → j < n → byte_at s (i + j) ≡ byte_at (x ∷ xs) j
stand_byte s i n j x xs h l =
    let g = part_inside s i n x xs h in
    sym (part_byte s i (i + n) (omega arith) g j (omega arith)) ∙ ap (λ (l : List ℕ). byte_at l j) h

-- bytes that are there are a part
bytes_stand : (s : List ℕ) (i : ℕ) (l : List ℕ) → i + length l ≤ length s → ((j : ℕ) → j < length l → byte_at s (i + j) ≡ byte_at l j)
    → part s i (i + length l) ≡ l
bytes_stand s i l h f =
    let n = part_length s i (i + length l) (omega arith) h in
    ext_get_or 0 (part s i (i + length l)) l (n ∙ omega arith) (λ j q. part_byte s i (i + length l) (omega arith) h j (omega arith) ∙ f j (omega arith))

-- each code point has its width -------------------------------------------------------------------------------------------------------

module _ (s : List ℕ) (i : ℕ) where
  one_stands : (a : ℕ) → white_one a ≡ true → part s i (i + 1) ≡ a ∷ [] → space_width s i ≡ 1
  unfolding space_width
  one_stands a w h =
      let z : i + 0 ≡ i = omega arith in
      let p : byte_at s i ≡ a = ap (byte_at s) (sym z) ∙ stand_byte s i 1 0 a [] h (omega arith) in
      rw (p, w)

  two_stands : (a b : ℕ) → white_one a ≡ false → white_two a b ≡ true → part s i (i + 2) ≡ a ∷ b ∷ [] → space_width s i ≡ 2
  unfolding space_width
  two_stands a b v w h =
      let z : i + 0 ≡ i = omega arith in
      let p : byte_at s i ≡ a = ap (byte_at s) (sym z) ∙ stand_byte s i 2 0 a (b ∷ []) h (omega arith) in
      let q : byte_at s (i + 1) ≡ b = stand_byte s i 2 1 a (b ∷ []) h (omega arith) in
      rw (p, q, v, w)

  three_stands : (a b c : ℕ) → white_one a ≡ false → white_two a b ≡ false → white_three a b c ≡ true → part s i (i + 3) ≡ a ∷ b ∷ c ∷ [] → space_width s i ≡ 3
  unfolding space_width
  three_stands a b c u v w h =
      let z : i + 0 ≡ i = omega arith in
      let p : byte_at s i ≡ a = ap (byte_at s) (sym z) ∙ stand_byte s i 3 0 a (b ∷ c ∷ []) h (omega arith) in
      let q : byte_at s (i + 1) ≡ b = stand_byte s i 3 1 a (b ∷ c ∷ []) h (omega arith) in
      let r : byte_at s (i + 2) ≡ c = stand_byte s i 3 2 a (b ∷ c ∷ []) h (omega arith) in
      rw (p, q, r, u, v, w)

  abbrev HasWidth : ℕ → Type 0
  HasWidth k = part s i (i + length (white_bytes k)) ≡ white_bytes k → space_width s i ≡ length (white_bytes k)

  all_have_width : Each HasWidth (up_from 0 25)
  unfolding up_from white_spaces encoding_of
  all_have_width = (one_stands _ refl, (one_stands _ refl, (one_stands _ refl, (one_stands _ refl, (one_stands _ refl, (one_stands _ refl, (two_stands _ _ refl refl, (two_stands _ _ refl refl, (three_stands _ _ _ refl refl refl, (three_stands _ _ _ refl refl refl, (three_stands _ _ _ refl refl refl, (three_stands _ _ _ refl refl refl, (three_stands _ _ _ refl refl refl, (three_stands _ _ _ refl refl refl, (three_stands _ _ _ refl refl refl, (three_stands _ _ _ refl refl refl, (three_stands _ _ _ refl refl refl, (three_stands _ _ _ refl refl refl, (three_stands _ _ _ refl refl refl, (three_stands _ _ _ refl refl refl, (three_stands _ _ _ refl refl refl, (three_stands _ _ _ refl refl refl, (three_stands _ _ _ refl refl refl, (three_stands _ _ _ refl refl refl, (three_stands _ _ _ refl refl refl, tt)))))))))))))))))))))))))

pub white_has_width : WhiteHasWidth
white_has_width s i k h =
    let n = white_spaces_25 in
    each_up (HasWidth s i) 0 25 (all_have_width s i) k (omega arith) (omega (arith, h.0, n)) h.1

-- and no other bytes have one ---------------------------------------------------------------------------------------------------------

module _ (s : List ℕ) (i : ℕ) where
  abbrev Found : Type 0
  Found = (k : ℕ) × StandsAt s i k

  found : (k : ℕ) (l : List ℕ) → k < 25 → white_bytes k ≡ l → i + length l ≤ length s → ((j : ℕ) → j < length l → byte_at s (i + j) ≡ byte_at l j) → Found
  found k l h e g f = (k, (omega (arith, white_spaces_25), rw e (bytes_stand s i l g f)))

  at_0 : (x : ℕ) → byte_at s i ≡ x → byte_at s (i + 0) ≡ x
  at_0 x p = let z : i + 0 ≡ i = omega arith in ap (byte_at s) z ∙ p

  found_1 : (k a : ℕ) → k < 25 → white_bytes k ≡ a ∷ [] → 0 < a → byte_at s i ≡ a → Found
  unfolding up_from
  found_1 k a h e n p =
      let g = byte_there s i (omega arith) in
      found k (a ∷ []) h e (omega arith) (λ j l. each_up (λ x. byte_at s (i + x) ≡ byte_at (a ∷ []) x) 0 1 (at_0 a p, tt) j (omega arith) (omega arith))

  found_2 : (k a b : ℕ) → k < 25 → white_bytes k ≡ a ∷ b ∷ [] → 0 < b → byte_at s i ≡ a → byte_at s (i + 1) ≡ b → Found
  unfolding up_from
  found_2 k a b h e n p q =
      let g = byte_there s (i + 1) (omega arith) in
      found k (a ∷ b ∷ []) h e (omega arith)
      (λ j l. each_up (λ x. byte_at s (i + x) ≡ byte_at (a ∷ b ∷ []) x) 0 2 (at_0 a p, (q, tt)) j (omega arith) (omega arith))

  found_3 : (k a b c : ℕ) → k < 25 → white_bytes k ≡ a ∷ b ∷ c ∷ [] → 0 < c → byte_at s i ≡ a → byte_at s (i + 1) ≡ b → byte_at s (i + 2) ≡ c → Found
  unfolding up_from
  found_3 k a b c h e n p q r =
      let g = byte_there s (i + 2) (omega arith) in
      found k (a ∷ b ∷ c ∷ []) h e (omega arith)
      (λ j l. each_up (λ x. byte_at s (i + x) ≡ byte_at (a ∷ b ∷ c ∷ []) x) 0 3 (at_0 a p, (q, (r, tt))) j (omega arith) (omega arith))

  one_found : white_one (byte_at s i) ≡ true → Found
  unfolding up_from white_spaces encoding_of
  one_found w =
      or_two (within 0x09 0x0D (byte_at s i)) _ w
      (λ e. let b = within_is _ _ (byte_at s i) e in
      each_up (λ x. byte_at s i ≡ x → Found) 0x09 5 (
        found_1 0 _ (omega arith) refl (omega arith),
        (
          found_1 1 _ (omega arith) refl (omega arith),
          (
            found_1 2 _ (omega arith) refl (omega arith),
            (
              found_1 3 _ (omega arith) refl (omega arith),
              (found_1 4 _ (omega arith) refl (omega arith), tt),
            ),
          ),
        ),
      )
      (byte_at s i) (omega (arith, b)) (omega (arith, b)) refl)
      (λ e. found_1 5 _ (omega arith) refl (omega arith) (eqb-true (byte_at s i) _ e))

  two_found : white_two (byte_at s i) (byte_at s (i + 1)) ≡ true → Found
  unfolding white_spaces encoding_of
  two_found w =
      let p = eqb-true (byte_at s i) 0xC2 (and_left (eqb (byte_at s i) 0xC2) _ w) in
      or_two (eqb (byte_at s (i + 1)) 0x85) _ (and_right (eqb (byte_at s i) 0xC2) _ w)
      (λ e. found_2 6 _ _ (omega arith) refl (omega arith) p (eqb-true (byte_at s (i + 1)) _ e))
      (λ e. found_2 7 _ _ (omega arith) refl (omega arith) p (eqb-true (byte_at s (i + 1)) _ e))

  three_found : white_three (byte_at s i) (byte_at s (i + 1)) (byte_at s (i + 2)) ≡ true → Found
  unfolding up_from white_spaces encoding_of
  three_found w =
      or_four (eqb (byte_at s i) 0xE1 && eqb (byte_at s (i + 1)) 0x9A && eqb (byte_at s (i + 2)) 0x80) _ _ _ w
      (λ e. let x = three_are _ _ _ e in found_3 8 _ _ _ (omega arith) refl (omega arith) x.0 x.1 x.2)
      (λ e. in_20 e)
      (λ e. let x = three_are _ _ _ e in found_3 23 _ _ _ (omega arith) refl (omega arith) x.0 x.1 x.2)
      (λ e. let x = three_are _ _ _ e in found_3 24 _ _ _ (omega arith) refl (omega arith) x.0 x.1 x.2)
    where
      three_are : (x y z : ℕ) → eqb (byte_at s i) x && eqb (byte_at s (i + 1)) y && eqb (byte_at s (i + 2)) z ≡ true
          → (byte_at s i ≡ x) × (byte_at s (i + 1) ≡ y) × (byte_at s (i + 2) ≡ z)
      three_are x y z h =
          let g = and_three (eqb (byte_at s i) x) (eqb (byte_at s (i + 1)) y) (eqb (byte_at s (i + 2)) z) h in
          (eqb-true _ _ g.0, eqb-true _ _ g.1, eqb-true _ _ g.2)

      in_20 : eqb (byte_at s i) 0xE2 && eqb (byte_at s (i + 1)) 0x80
          && (within 0x80 0x8A (byte_at s (i + 2)) || eqb (byte_at s (i + 2)) 0xA8 || eqb (byte_at s (i + 2)) 0xA9 || eqb (byte_at s (i + 2)) 0xAF) ≡ true → Found
      in_20 h =
          let g = and_three (eqb (byte_at s i) 0xE2) (eqb (byte_at s (i + 1)) 0x80) _ h in
          let p = eqb-true (byte_at s i) 0xE2 g.0 in
          let q = eqb-true (byte_at s (i + 1)) 0x80 g.1 in
          or_four (within 0x80 0x8A (byte_at s (i + 2))) _ _ _ g.2
          (λ e. let b = within_is _ _ (byte_at s (i + 2)) e in
          each_up (λ x. byte_at s (i + 2) ≡ x → Found) 0x80 11 (
            found_3 9 _ _ _ (omega arith) refl (omega arith) p q,
            (
              found_3 10 _ _ _ (omega arith) refl (omega arith) p q,
              (
                found_3 11 _ _ _ (omega arith) refl (omega arith) p q,
                (
                  found_3 12 _ _ _ (omega arith) refl (omega arith) p q,
                  (
                    found_3 13 _ _ _ (omega arith) refl (omega arith) p q,
                    (
                      found_3 14 _ _ _ (omega arith) refl (omega arith) p q,
                      (
                        found_3 15 _ _ _ (omega arith) refl (omega arith) p q,
                        (
                          found_3 16 _ _ _ (omega arith) refl (omega arith) p q,
                          (
                            found_3 17 _ _ _ (omega arith) refl (omega arith) p q,
                            (
                              found_3 18 _ _ _ (omega arith) refl (omega arith) p q,
                              (found_3 19 _ _ _ (omega arith) refl (omega arith) p q, tt),
                            ),
                          ),
                        ),
                      ),
                    ),
                  ),
                ),
              ),
            ),
          )
          (byte_at s (i + 2)) (omega (arith, b)) (omega (arith, b)) refl)
          (λ e. found_3 20 _ _ _ (omega arith) refl (omega arith) p q (eqb-true (byte_at s (i + 2)) _ e))
          (λ e. found_3 21 _ _ _ (omega arith) refl (omega arith) p q (eqb-true (byte_at s (i + 2)) _ e))
          (λ e. found_3 22 _ _ _ (omega arith) refl (omega arith) p q (eqb-true (byte_at s (i + 2)) _ e))

pub width_is_white : WidthIsWhite
unfolding space_width
width_is_white s i =
    go (white_one (byte_at s i)) (white_two (byte_at s i) (byte_at s (i + 1))) (white_three (byte_at s i) (byte_at s (i + 1)) (byte_at s (i + 2))) refl refl refl
  where
    go : (x y z : Bool) → white_one (byte_at s i) ≡ x → white_two (byte_at s i) (byte_at s (i + 1)) ≡ y → white_three (byte_at s i) (byte_at s (i + 1)) (byte_at s (i + 2)) ≡ z
        → 0 < pick x 1 (pick y 2 (pick z 3 0)) → Found s i
    go true y z p q r h = one_found s i p
    go false true z p q r h = two_found s i q
    go false false true p q r h = three_found s i r
    go false false false p q r h = absurd (omega arith)

-- the bytes of a white character --------------------------------------------------------------------------------------------------------

pub width_by_lem : (s : List ℕ) (i : ℕ) → space_width s i ≤ 3
unfolding space_width
width_by_lem s i = go (white_one (byte_at s i)) (white_two (byte_at s i) (byte_at s (i + 1))) (white_three (byte_at s i) (byte_at s (i + 1)) (byte_at s (i + 2)))
  where
    go : (x y z : Bool) → pick x 1 (pick y 2 (pick z 3 0)) ≤ 3
    go true y z = omega arith
    go false true z = omega arith
    go false false true = omega arith
    go false false false = omega arith

-- a byte is white where a character begins at it or just before it, and is wide enough
pub byte_white : (s : List ℕ) (j i : ℕ) → i ≤ j → j < i + space_width s i → is_white s j ≡ true
unfolding is_white
byte_white s j i l h = go (eqb j i) (eqb j (i + 1)) refl refl
  where
    or_hold : (a b : Bool) → a || true || b ≡ true
    or_hold true b = refl
    or_hold false b = refl

    go : (t u : Bool) → eqb j i ≡ t → eqb j (i + 1) ≡ u → is_white s j ≡ true
    go true u p q =
        let e = eqb-true j i p in
        rw (e, lt-ltb 0 (space_width s i) (omega arith))
    go false true p q =
        let e = eqb-true j (i + 1) q in
        let d : i + 1 - 1 ≡ i = omega arith in
        rw (e, d, lt-ltb 1 (space_width s i) (omega arith)) (or_hold (ltb 0 (space_width s (i + 1))) (ltb 2 (space_width s (i + 1 - 2))))
    go false false p q =
        let e = eqb-false j i p in
        let f = eqb-false j (i + 1) q in
        let w = width_by_lem s i in
        let g : j ≡ i + 2 = omega arith in
        let d : i + 2 - 2 ≡ i = omega arith in
        rw (g, d, lt-ltb 2 (space_width s i) (omega arith)) (or-true (ltb 0 (space_width s (i + 2)) || ltb 1 (space_width s (i + 2 - 1))))

pub bytes_are_white : BytesAreWhite
bytes_are_white s i j k h l m = let w = white_has_width s i k h in byte_white s j i l (omega arith)

-- and only there
pub white_at : (s : List ℕ) (j : ℕ) → is_white s j ≡ true → (i : ℕ) × (i ≤ j) × (j < i + space_width s i)
unfolding is_white
white_at s j h =
    or_three (ltb 0 (space_width s j)) _ _ h
    (λ e. let n = ltb-true 0 (space_width s j) e in (j, omega arith, omega arith))
    (λ e. let n = ltb-true 1 (space_width s (j - 1)) e in (j - 1, omega arith, omega arith))
    (λ e. let n = ltb-true 2 (space_width s (j - 2)) e in (j - 2, omega arith, omega arith))

pub white_is_byte : WhiteIsByte
white_is_byte s j h =
    let p = white_at s j h in
    let f = width_is_white s p.0 (omega (arith, p.1, p.2)) in
    let w = white_has_width s p.0 f.0 f.1 in
    (p.0, f.0, f.1, p.1, omega (arith, p.2))
