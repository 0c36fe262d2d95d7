-- THEOREMS `EncodedIsUtf8`, `Utf8IsEncoded` and `DecodedIsBack`:
-- the accepted bytes are the encodings of lists of code points, of one each.
use Prim.Native.Nat.{ℕ, zero, suc, ◌+◌, ◌-◌, ◌*◌, ◌/◌, ◌%◌, ◌≤◌, ◌<◌}
use native.Mathlib.Omega.{arith}
use mathlib.Core.Path.{◌≡◌, refl, sym, ◌∙◌, ap}
use mathlib.Core.List.{List, [], ◌∷◌, ◌++◌}
use mathlib.Core.Logic.{◌⊎◌, inl, inr}
use mathlib.Core.Bool.{Bool, true, false, ◌&&◌, true≢false, and-false}
use lib.ListN.{length, drop, drop_of_length-le, length-drop, length-append}
use lib.Seq.{drop-cons, drop-drop, drop-append_seam, get_or-drop}
use lib.Dec.{eqb, leb, ltb}
use borrow.Author.Tests.{lt-ltb, le-ltb, eq-eqb, ne_eqb, le-leb, lt-leb, leb-true, leb-false, ltb-true, ltb-false, eqb-true, eqb-false, not-true}
use Rattle.base.specs.Pick.{pick}
use Rattle.base.specs.Lists.{byte_at, within}
use Rattle.base.proofs.Bools.{and_left, and_right, and_three, or_three, or_four}
use Rattle.base.proofs.Parts.{byte_there}
use Rattle.base.proofs.Ranges.{within_is, within_so}
use Rattle.utf8.specs.Utf8.{is_tail, two_bytes, three_bytes, four_bytes, char_width, utf8_in, utf8}
use Rattle.utf8.specs.Encoding.{is_scalar, encoding_of, encoded, code_by, code_at, decoded_in, decoded}
use Rattle.utf8.specs.Facts.{Scalars, EncodedIsUtf8, Utf8IsEncoded, DecodedIsBack}
use Rattle.utf8.proofs.Characters.{char_1, char_2, char_3, char_4, Rest, rest_start, rest_end, rest_next}

-- code points -------------------------------------------------------------------------------------------------------------------------

scalar_low : (v : ℕ) → v < 0xD800 → is_scalar v ≡ true
scalar_low v h = rw (le-leb v 0x10FFFF (omega arith), lt-leb 0xD800 v h)

scalar_high : (v : ℕ) → 0xDFFF < v → v ≤ 0x10FFFF → is_scalar v ≡ true
scalar_high v h l = rw (le-leb v 0x10FFFF l, le-leb 0xD800 v (omega arith), lt-leb v 0xDFFF h)

scalar_is : (v : ℕ) → is_scalar v ≡ true → (v ≤ 0x10FFFF) × ((v < 0xD800) ⊎ (0xDFFF < v))
scalar_is v h = (leb-true v 0x10FFFF (and_left (leb v 0x10FFFF) _ h), go (leb 0xD800 v) (leb v 0xDFFF) refl refl (not-true _ (and_right (leb v 0x10FFFF) _ h)))
  where
    go : (t u : Bool) → leb 0xD800 v ≡ t → leb v 0xDFFF ≡ u → t && u ≡ false → (v < 0xD800) ⊎ (0xDFFF < v)
    go true true p q f = absurd (true≢false f)
    go true false p q f = inr (leb-false v 0xDFFF q)
    go false u p q f = inl (leb-false 0xD800 v p)

-- the encoding by the width
enc_1 : (v : ℕ) → v ≤ 0x7F → encoding_of v ≡ v ∷ []
unfolding encoding_of
enc_1 v h = rw (le-leb v 0x7F h)

enc_2 : (v a b : ℕ) → 0x7F < v → v ≤ 0x7FF → 0xC0 + v / 64 ≡ a → 0x80 + v % 64 ≡ b → encoding_of v ≡ a ∷ b ∷ []
unfolding encoding_of
enc_2 v a b l h p q = rw (lt-leb v 0x7F l, le-leb v 0x7FF h, p, q)

enc_3 : (v a b c : ℕ) → 0x7FF < v → v ≤ 0xFFFF → 0xE0 + v / 4096 ≡ a → 0x80 + v / 64 % 64 ≡ b → 0x80 + v % 64 ≡ c → encoding_of v ≡ a ∷ b ∷ c ∷ []
unfolding encoding_of
enc_3 v a b c l h p q r = rw (lt-leb v 0x7F (omega arith), lt-leb v 0x7FF l, le-leb v 0xFFFF h, p, q, r)

enc_4 : (v a b c d : ℕ) → 0xFFFF < v → 0xF0 + v / 262144 ≡ a → 0x80 + v / 4096 % 64 ≡ b → 0x80 + v / 64 % 64 ≡ c → 0x80 + v % 64 ≡ d
    → encoding_of v ≡ a ∷ b ∷ c ∷ d ∷ []
unfolding encoding_of
enc_4 v a b c d l p q r t = rw (lt-leb v 0x7F (omega arith), lt-leb v 0x7FF (omega arith), lt-leb v 0xFFFF l, p, q, r, t)

-- from bytes to the code point --------------------------------------------------------------------------------------------------------

two_code : (a b : ℕ) → two_bytes a b ≡ true
    → (is_scalar ((a - 0xC0) * 64 + (b - 0x80)) ≡ true) × (encoding_of ((a - 0xC0) * 64 + (b - 0x80)) ≡ a ∷ b ∷ [])
two_code a b h =
    let p = within_is 0xC2 0xDF a (and_left (within 0xC2 0xDF a) _ h) in
    let q = within_is 0x80 0xBF b (and_right (within 0xC2 0xDF a) _ h) in
    let v = (a - 0xC0) * 64 + (b - 0x80) in
    (scalar_low v (omega (arith, p, q)), enc_2 v a b (omega (arith, p, q)) (omega (arith, p, q)) (omega (arith, p, q)) (omega (arith, p, q)))

-- what the tests of three bytes say, the first being one byte or in a range
one_and : (k x y a b c : ℕ) → eqb a k && within x y b && is_tail c ≡ true → (a ≡ k) × (x ≤ b) × (b ≤ y) × (0x80 ≤ c) × (c ≤ 0xBF)
one_and k x y a b c h =
    let e = and_three (eqb a k) (within x y b) (is_tail c) h in
    let q = within_is x y b e.1 in
    let r = within_is 0x80 0xBF c e.2 in
    (eqb-true a k e.0, q.0, q.1, r.0, r.1)

range_and : (lo hi x y a b c : ℕ) → within lo hi a && within x y b && is_tail c ≡ true
    → (lo ≤ a) × (a ≤ hi) × (x ≤ b) × (b ≤ y) × (0x80 ≤ c) × (c ≤ 0xBF)
range_and lo hi x y a b c h =
    let e = and_three (within lo hi a) (within x y b) (is_tail c) h in
    let p = within_is lo hi a e.0 in
    let q = within_is x y b e.1 in
    let r = within_is 0x80 0xBF c e.2 in
    (p.0, p.1, q.0, q.1, r.0, r.1)

-- one of three bytes: the bounds of the bytes, and the code point
module _ (a b c : ℕ) where
  abbrev v3 : ℕ
  v3 = (a - 0xE0) * 4096 + (b - 0x80) * 64 + (c - 0x80)

  abbrev Three : Type 0
  Three = (0xE0 ≤ a) × (a ≤ 0xEF) × (0x80 ≤ b) × (b ≤ 0xBF) × (0x80 ≤ c) × (c ≤ 0xBF) × (0x7FF < v3) × (is_scalar v3 ≡ true)

  three_in : three_bytes a b c ≡ true → Three
  three_in h =
      or_four (eqb a 0xE0 && within 0xA0 0xBF b && is_tail c) _ _ _ h
      (λ e. let p = one_and _ _ _ a b c e in (omega (arith, p), omega (arith, p), omega (arith, p), omega (arith, p), omega (arith, p), omega (arith, p), omega (arith, p), scalar_low v3 (omega (arith, p))))
      (λ e. let p = range_and _ _ _ _ a b c e in (omega (arith, p), omega (arith, p), omega (arith, p), omega (arith, p), omega (arith, p), omega (arith, p), omega (arith, p), scalar_low v3 (omega (arith, p))))
      (λ e. let p = one_and _ _ _ a b c e in (omega (arith, p), omega (arith, p), omega (arith, p), omega (arith, p), omega (arith, p), omega (arith, p), omega (arith, p), scalar_low v3 (omega (arith, p))))
      (λ e. let p = range_and _ _ _ _ a b c e in (omega (arith, p), omega (arith, p), omega (arith, p), omega (arith, p), omega (arith, p), omega (arith, p), omega (arith, p), scalar_high v3 (omega (arith, p)) (omega (arith, p))))

  three_code : Three → (is_scalar v3 ≡ true) × (encoding_of v3 ≡ a ∷ b ∷ c ∷ [])
  three_code t = (t.7, enc_3 v3 a b c t.6 (omega (arith, t)) (omega (arith, t)) (omega (arith, t)) (omega (arith, t)))

-- one of four
module _ (a b c d : ℕ) where
  abbrev v4 : ℕ
  v4 = (a - 0xF0) * 262144 + (b - 0x80) * 4096 + (c - 0x80) * 64 + (d - 0x80)

  abbrev Four : Type 0
  Four =
      (0xF0 ≤ a) × (a ≤ 0xF4) × (0x80 ≤ b) × (b ≤ 0xBF) × (0x80 ≤ c) × (c ≤ 0xBF) × (0x80 ≤ d) × (d ≤ 0xBF) × (0xFFFF < v4) × (is_scalar v4 ≡ true)

  one_more : (k x y : ℕ) → eqb a k && within x y b && is_tail c && is_tail d ≡ true
      → (a ≡ k) × (x ≤ b) × (b ≤ y) × (0x80 ≤ c) × (c ≤ 0xBF) × (0x80 ≤ d) × (d ≤ 0xBF)
  one_more k x y h =
      let p = one_and k x y a b c (and_left (eqb a k && within x y b && is_tail c) (is_tail d) h) in
      let w = within_is 0x80 0xBF d (and_right (eqb a k && within x y b && is_tail c) (is_tail d) h) in
      (p.0, p.1, p.2, p.3, p.4, w.0, w.1)

  range_more : (lo hi x y : ℕ) → within lo hi a && within x y b && is_tail c && is_tail d ≡ true
      → (lo ≤ a) × (a ≤ hi) × (x ≤ b) × (b ≤ y) × (0x80 ≤ c) × (c ≤ 0xBF) × (0x80 ≤ d) × (d ≤ 0xBF)
  range_more lo hi x y h =
      let p = range_and lo hi x y a b c (and_left (within lo hi a && within x y b && is_tail c) (is_tail d) h) in
      let w = within_is 0x80 0xBF d (and_right (within lo hi a && within x y b && is_tail c) (is_tail d) h) in
      (p.0, p.1, p.2, p.3, p.4, p.5, w.0, w.1)

  four_in : four_bytes a b c d ≡ true → Four
  four_in h =
      or_three (eqb a 0xF0 && within 0x90 0xBF b && is_tail c && is_tail d) _ _ h
      (λ e. let p = one_more _ _ _ e in (omega (arith, p), omega (arith, p), omega (arith, p), omega (arith, p), omega (arith, p), omega (arith, p), omega (arith, p), omega (arith, p), omega (arith, p), scalar_high v4 (omega (arith, p)) (omega (arith, p))))
      (λ e. let p = range_more _ _ _ _ e in (omega (arith, p), omega (arith, p), omega (arith, p), omega (arith, p), omega (arith, p), omega (arith, p), omega (arith, p), omega (arith, p), omega (arith, p), scalar_high v4 (omega (arith, p)) (omega (arith, p))))
      (λ e. let p = one_more _ _ _ e in (omega (arith, p), omega (arith, p), omega (arith, p), omega (arith, p), omega (arith, p), omega (arith, p), omega (arith, p), omega (arith, p), omega (arith, p), scalar_high v4 (omega (arith, p)) (omega (arith, p))))

  four_code : Four → (is_scalar v4 ≡ true) × (encoding_of v4 ≡ a ∷ b ∷ c ∷ d ∷ [])
  four_code t = (t.9, enc_4 v4 a b c d t.8 (omega (arith, t)) (omega (arith, t)) (omega (arith, t)) (omega (arith, t)))

-- from the code point to bytes --------------------------------------------------------------------------------------------------------

two_so : (v : ℕ) → 0x7F < v → v ≤ 0x7FF → two_bytes (0xC0 + v / 64) (0x80 + v % 64) ≡ true
two_so v l h = rw (within_so 0xC2 0xDF (0xC0 + v / 64) (omega arith) (omega arith), within_so 0x80 0xBF (0x80 + v % 64) (omega arith) (omega arith))

tail_so : (b : ℕ) → is_tail (0x80 + b % 64) ≡ true
tail_so b = within_so 0x80 0xBF (0x80 + b % 64) (omega arith) (omega arith)

three_so : (v : ℕ) → 0x7FF < v → v ≤ 0xFFFF → (v < 0xD800) ⊎ (0xDFFF < v) → three_bytes (0xE0 + v / 4096) (0x80 + v / 64 % 64) (0x80 + v % 64) ≡ true
three_so v l h (inl g) = go (ltb v 0x1000) (ltb v 0xD000) refl refl
  where
    go : (t u : Bool) → ltb v 0x1000 ≡ t → ltb v 0xD000 ≡ u → three_bytes (0xE0 + v / 4096) (0x80 + v / 64 % 64) (0x80 + v % 64) ≡ true
    go true u p q =
        let k = ltb-true v 0x1000 p in
        rw (eq-eqb (0xE0 + v / 4096) 0xE0 (omega arith), within_so 0xA0 0xBF (0x80 + v / 64 % 64) (omega arith) (omega arith), tail_so v)
    go false true p q =
        let k = ltb-false v 0x1000 p in
        let m = ltb-true v 0xD000 q in
        rw (ne_eqb (0xE0 + v / 4096) 0xE0 (omega arith), within_so 0xE1 0xEC (0xE0 + v / 4096) (omega arith) (omega arith), tail_so (v / 64), tail_so v)
    go false false p q =
        let m = ltb-false v 0xD000 q in
        rw (
          ne_eqb (0xE0 + v / 4096) 0xE0 (omega arith),
          lt-leb (0xE0 + v / 4096) 0xEC (omega arith),
          eq-eqb (0xE0 + v / 4096) 0xED (omega arith),
          within_so 0x80 0x9F (0x80 + v / 64 % 64) (omega arith) (omega arith),
          tail_so v,
        )
        (simp and-false)
three_so v l h (inr g) =
    rw (
      ne_eqb (0xE0 + v / 4096) 0xE0 (omega arith),
      lt-leb (0xE0 + v / 4096) 0xEC (omega arith),
      ne_eqb (0xE0 + v / 4096) 0xED (omega arith),
      within_so 0xEE 0xEF (0xE0 + v / 4096) (omega arith) (omega arith),
      tail_so (v / 64),
      tail_so v,
    )
    (simp and-false)

four_so : (v : ℕ) → 0xFFFF < v → v ≤ 0x10FFFF
    → four_bytes (0xF0 + v / 262144) (0x80 + v / 4096 % 64) (0x80 + v / 64 % 64) (0x80 + v % 64) ≡ true
four_so v l h = go (ltb v 0x40000) (ltb v 0x100000) refl refl
  where
    go : (t u : Bool) → ltb v 0x40000 ≡ t → ltb v 0x100000 ≡ u
        → four_bytes (0xF0 + v / 262144) (0x80 + v / 4096 % 64) (0x80 + v / 64 % 64) (0x80 + v % 64) ≡ true
    go true u p q =
        let k = ltb-true v 0x40000 p in
        rw (eq-eqb (0xF0 + v / 262144) 0xF0 (omega arith), within_so 0x90 0xBF (0x80 + v / 4096 % 64) (omega arith) (omega arith), tail_so (v / 64), tail_so v)
    go false true p q =
        let k = ltb-false v 0x40000 p in
        let m = ltb-true v 0x100000 q in
        rw (ne_eqb (0xF0 + v / 262144) 0xF0 (omega arith), within_so 0xF1 0xF3 (0xF0 + v / 262144) (omega arith) (omega arith), tail_so (v / 4096), tail_so (v / 64), tail_so v)
    go false false p q =
        let m = ltb-false v 0x100000 q in
        rw (
          ne_eqb (0xF0 + v / 262144) 0xF0 (omega arith),
          lt-leb (0xF0 + v / 262144) 0xF3 (omega arith),
          eq-eqb (0xF0 + v / 262144) 0xF4 (omega arith),
          within_so 0x80 0x8F (0x80 + v / 4096 % 64) (omega arith) (omega arith),
          tail_so (v / 64),
          tail_so v,
        )
        (simp and-false)

-- what stands at a place --------------------------------------------------------------------------------------------------------------

-- the bytes at `i`, and the text from `i` on
byte_of : (s : List ℕ) (i k : ℕ) (r : List ℕ) → drop i s ≡ r → byte_at s (i + k) ≡ byte_at r k
byte_of s i k r h = sym (get_or-drop i s k 0) ∙ ap (λ (l : List ℕ). byte_at l k) h

byte_first : (s : List ℕ) (i : ℕ) (r : List ℕ) → drop i s ≡ r → byte_at s i ≡ byte_at r 0
byte_first s i r h = let e : i ≡ i + 0 = omega arith in ap (byte_at s) e ∙ byte_of s i 0 r h

-- the width of the character at `i` where a code point's encoding stands there
width_of : (s : List ℕ) (i v : ℕ) (r : List ℕ) → is_scalar v ≡ true → drop i s ≡ encoding_of v ++ r → length (encoding_of v) ≡ char_width s i
width_of s i v r h e =
    let g = scalar_is v h in
    go (leb v 0x7F) (leb v 0x7FF) (leb v 0xFFFF) refl refl refl g.0 g.1
  where
    shape : (l : List ℕ) → encoding_of v ≡ l → drop i s ≡ l ++ r
    shape l q = e ∙ ap (λ (x : List ℕ). x ++ r) q

    go : (x y z : Bool) → leb v 0x7F ≡ x → leb v 0x7FF ≡ y → leb v 0xFFFF ≡ z → v ≤ 0x10FFFF → (v < 0xD800) ⊎ (0xDFFF < v)
        → length (encoding_of v) ≡ char_width s i
    go true y z p q t m n =
        let k = leb-true v 0x7F p in
        let f = enc_1 v k in
        let b = byte_first s i (v ∷ r) (shape (v ∷ []) f) in
        rw f (char_1 s i (omega (arith, b)))
    go false true z p q t m n =
        let k = leb-false v 0x7F p in
        let l = leb-true v 0x7FF q in
        let a₀ = 0xC0 + v / 64 in
        let b₀ = 0x80 + v % 64 in
        let f = enc_2 v a₀ b₀ k l refl refl in
        let w = shape (a₀ ∷ b₀ ∷ []) f in
        let a = byte_first s i (a₀ ∷ b₀ ∷ r) w in
        let b = byte_of s i 1 (a₀ ∷ b₀ ∷ r) w in
        rw f (char_2 s i {b = b₀} (sym b) {two = true} (omega (arith, a)) (omega (arith, a)) (rw a (sym (two_so v k l))) refl)
    go false false true p q t m n =
        let k = leb-false v 0x7FF q in
        let l = leb-true v 0xFFFF t in
        let a₀ = 0xE0 + v / 4096 in
        let b₀ = 0x80 + v / 64 % 64 in
        let c₀ = 0x80 + v % 64 in
        let f = enc_3 v a₀ b₀ c₀ k l refl refl refl in
        let w = shape (a₀ ∷ b₀ ∷ c₀ ∷ []) f in
        let a = byte_first s i (a₀ ∷ b₀ ∷ c₀ ∷ r) w in
        let b = byte_of s i 1 (a₀ ∷ b₀ ∷ c₀ ∷ r) w in
        let c = byte_of s i 2 (a₀ ∷ b₀ ∷ c₀ ∷ r) w in
        rw f (char_3 s i {b = b₀} (sym b) {c = c₀} (sym c) {three = true} (omega (arith, a)) (omega (arith, a)) (rw a (sym (three_so v k l n))) refl)
    go false false false p q t m n =
        let k = leb-false v 0xFFFF t in
        let a₀ = 0xF0 + v / 262144 in
        let b₀ = 0x80 + v / 4096 % 64 in
        let c₀ = 0x80 + v / 64 % 64 in
        let d₀ = 0x80 + v % 64 in
        let f = enc_4 v a₀ b₀ c₀ d₀ k refl refl refl refl in
        let w = shape (a₀ ∷ b₀ ∷ c₀ ∷ d₀ ∷ []) f in
        let a = byte_first s i (a₀ ∷ b₀ ∷ c₀ ∷ d₀ ∷ r) w in
        let b = byte_of s i 1 (a₀ ∷ b₀ ∷ c₀ ∷ d₀ ∷ r) w in
        let c = byte_of s i 2 (a₀ ∷ b₀ ∷ c₀ ∷ d₀ ∷ r) w in
        let d = byte_of s i 3 (a₀ ∷ b₀ ∷ c₀ ∷ d₀ ∷ r) w in
        rw f (char_4 s i {b = b₀} (sym b) {c = c₀} (sym c) {x = d₀} {four = true} (omega (arith, a)) (sym d) (rw a (sym (four_so v k m))) refl)

-- an encoding has a byte or more
some_byte : (v : ℕ) → 0 < length (encoding_of v)
unfolding encoding_of
some_byte v = go (leb v 0x7F) (leb v 0x7FF) (leb v 0xFFFF)
  where
    go : (x y z : Bool)
        → 0 < length (pick x (v ∷ [])
        (pick y ((0xC0 + v / 64) ∷ (0x80 + v % 64) ∷ [])
        (pick z ((0xE0 + v / 4096) ∷ (0x80 + v / 64 % 64) ∷ (0x80 + v % 64) ∷ [])
        ((0xF0 + v / 262144) ∷ (0x80 + v / 4096 % 64) ∷ (0x80 + v / 64 % 64) ∷ (0x80 + v % 64) ∷ []))))
    go true y z = omega arith
    go false true z = omega arith
    go false false true = omega arith
    go false false false = omega arith

-- a text that is, from `i` on, the encoding of a code point and of others
encoded_next : (s : List ℕ) (i v : ℕ) (cs : List ℕ) → drop i s ≡ encoding_of v ++ encoded cs
    → (i < length s) × (drop (i + length (encoding_of v)) s ≡ encoded cs)
encoded_next s i v cs e =
    let l : length (drop i s) ≡ length (encoding_of v) + length (encoded cs) = ap length e ∙ length-append (encoding_of v) (encoded cs) in
    let m = length-drop i s in
    let o = some_byte v in
    (omega arith, sym (drop-drop (length (encoding_of v)) i s) ∙ ap (drop (length (encoding_of v))) e ∙ drop-append_seam (encoding_of v) (encoded cs))

-- the check of a text that is, from `i` on, the encoding of `cs`
encoded_rest : (s : List ℕ) (cs : List ℕ) (i : ℕ) {w : Bool} → Rest s i w → Scalars cs → drop i s ≡ encoded cs → true ≡ w
unfolding encoded
encoded_rest s [] i rest h e = rest_end s i rest (let l : length (drop i s) ≡ 0 = ap length e in let m = length-drop i s in omega arith)
encoded_rest s (v ∷ cs) i rest h e =
    let g = encoded_next s i v cs e in
    let o = some_byte v in
    encoded_rest s cs (i + length (encoding_of v))
    (rest_next s i rest g.0 (width_of s i v (encoded cs) h.0 e) (λ z. omega arith))
    h.1 g.1

pub encoded_is_utf8 : EncodedIsUtf8
encoded_is_utf8 cs h = sym (encoded_rest (encoded cs) cs 0 (rest_start (encoded cs)) h refl)

-- one byte more of the text
drop_next : (s : List ℕ) (k m : ℕ) → k < length s → m ≡ k + 1 → drop k s ≡ byte_at s k ∷ drop m s
drop_next s k m h e = let q : suc k ≡ m = omega arith in drop-cons s k 0 h ∙ ap (λ (j : ℕ). byte_at s k ∷ drop j s) q

-- the character at `i` is the encoding of its code point
module _ (s : List ℕ) (i : ℕ) (h : i < length s) where
  abbrev a : ℕ
  a = byte_at s i

  abbrev b : ℕ
  b = byte_at s (i + 1)

  abbrev c : ℕ
  c = byte_at s (i + 2)

  abbrev d : ℕ
  d = byte_at s (i + 3)

  abbrev Decoded : Type 0
  Decoded = (is_scalar (code_at s i) ≡ true) × (drop i s ≡ encoding_of (code_at s i) ++ drop (i + char_width s i) s)

  decoded_by : (v k : ℕ) (l : List ℕ) → code_at s i ≡ v → char_width s i ≡ k → (is_scalar v ≡ true) × (encoding_of v ≡ l) → drop i s ≡ l ++ drop (i + k) s → Decoded
  decoded_by v k l p q r e = rw (p, q) (r.0, rw r.1 e)

  decoded_1 : a ≤ 0x7F → Decoded
  unfolding code_by
  decoded_1 l =
      decoded_by a 1 (a ∷ []) (rw (le-leb a 0x7F l)) (sym (char_1 s i l)) (scalar_low a (omega arith), enc_1 a l) (drop_next s i (i + 1) h refl)

  decoded_2 : two_bytes a b ≡ true → Decoded
  unfolding code_by
  decoded_2 t =
      let p = within_is 0xC2 0xDF a (and_left (within 0xC2 0xDF a) _ t) in
      let q = within_is 0x80 0xBF b (and_right (within 0xC2 0xDF a) _ t) in
      decoded_by ((a - 0xC0) * 64 + (b - 0x80)) 2 (a ∷ b ∷ [])
      (rw (lt-leb a 0x7F (omega (arith, p)), le-leb a 0xDF p.1))
      (sym (char_2 s i refl (omega (arith, p)) p.1 (sym t) refl))
      (two_code a b t)
      (drop_next s i (i + 1) h refl ∙ ap (λ (l : List ℕ). a ∷ l) (drop_next s (i + 1) (i + 2) (byte_there s (i + 1) (omega (arith, q))) (omega arith)))

  decoded_3 : three_bytes a b c ≡ true → Three a b c → Decoded
  unfolding code_by
  decoded_3 t p =
      decoded_by (v3 a b c) 3 (a ∷ b ∷ c ∷ [])
      (rw (lt-leb a 0x7F (omega (arith, p)), lt-leb a 0xDF (omega (arith, p)), le-leb a 0xEF p.1))
      (sym (char_3 s i refl refl (omega (arith, p)) p.1 (sym t) refl))
      (three_code a b c p)
      (drop_next s i (i + 1) h refl
      ∙ ap (λ (l : List ℕ). a ∷ l) (drop_next s (i + 1) (i + 2) (byte_there s (i + 1) (omega (arith, p))) (omega arith)
      ∙ ap (λ (l : List ℕ). b ∷ l) (drop_next s (i + 2) (i + 3) (byte_there s (i + 2) (omega (arith, p))) (omega arith))))

  decoded_4 : four_bytes a b c d ≡ true → Four a b c d → Decoded
  unfolding code_by
  decoded_4 t p =
      decoded_by (v4 a b c d) 4 (a ∷ b ∷ c ∷ d ∷ [])
      (rw (lt-leb a 0x7F (omega (arith, p)), lt-leb a 0xDF (omega (arith, p)), lt-leb a 0xEF (omega (arith, p))))
      (sym (char_4 s i refl refl (omega (arith, p)) refl (sym t) refl))
      (four_code a b c d p)
      (drop_next s i (i + 1) h refl
      ∙ ap (λ (l : List ℕ). a ∷ l) (drop_next s (i + 1) (i + 2) (byte_there s (i + 1) (omega (arith, p))) (omega arith)
      ∙ ap (λ (l : List ℕ). b ∷ l) (drop_next s (i + 2) (i + 3) (byte_there s (i + 2) (omega (arith, p))) (omega arith)
      ∙ ap (λ (l : List ℕ). c ∷ l) (drop_next s (i + 3) (i + 4) (byte_there s (i + 3) (omega (arith, p))) (omega arith)))))

  char_decoded : (char_width s i ≡ 0 → ⊥) → Decoded
  unfolding char_width
  char_decoded = go (leb a 0x7F) (two_bytes a b) (three_bytes a b c) (four_bytes a b c d) refl refl refl refl
    where
      go : (x y z w : Bool) → leb a 0x7F ≡ x → two_bytes a b ≡ y → three_bytes a b c ≡ z → four_bytes a b c d ≡ w
          → (◌≡◌ {A = ℕ} (pick x 1 (pick y 2 (pick z 3 (pick w 4 0)))) 0 → ⊥) → Decoded
      go true y z w p q r t n = decoded_1 (leb-true a 0x7F p)
      go false true z w p q r t n = decoded_2 q
      go false false true w p q r t n = decoded_3 r (three_in a b c r)
      go false false false true p q r t n = decoded_4 t (four_in a b c d t)
      go false false false false p q r t n = absurd (n refl)

decoded_in_lem : (n : ℕ) (s : List ℕ) (i : ℕ) → utf8_in n s i ≡ true → Scalars (decoded_in n s i) × (encoded (decoded_in n s i) ≡ drop i s)
unfolding utf8_in decoded_in encoded
decoded_in_lem zero s i t = (tt, sym (drop_of_length-le s {i = i} (ltb-false i (length s) (not-true _ t))))
decoded_in_lem (suc n) s i t = go (ltb i (length s)) (eqb (char_width s i) 0) refl refl t (λ u. decoded_in_lem n s (i + char_width s i) u)
  where
    go : (x y : Bool) → ltb i (length s) ≡ x → eqb (char_width s i) 0 ≡ y → pick x (pick y false (utf8_in n s (i + char_width s i))) true ≡ true
        → (utf8_in n s (i + char_width s i) ≡ true → Scalars (decoded_in n s (i + char_width s i)) × (encoded (decoded_in n s (i + char_width s i)) ≡ drop (i + char_width s i) s))
        → Scalars (pick x (code_at s i ∷ decoded_in n s (i + char_width s i)) []) × (encoded (pick x (code_at s i ∷ decoded_in n s (i + char_width s i)) []) ≡ drop i s)
    go true true p q u on = absurd (true≢false (sym u))
    go true false p q u on =
        let g = char_decoded s i (ltb-true i (length s) p) (eqb-false (char_width s i) 0 q) in
        let r = on u in
        ((g.0, r.0), ap (λ (l : List ℕ). encoding_of (code_at s i) ++ l) r.1 ∙ sym g.1)
    go false y p q u on = (tt, sym (drop_of_length-le s {i = i} (ltb-false i (length s) p)))

pub utf8_is_encoded : Utf8IsEncoded
unfolding utf8 decoded
utf8_is_encoded s h = decoded_in_lem (length s) s 0 h

-- a code point's encoding is read back to it ----------------------------------------------------------------------------------------------

module _ (v : ℕ) where
  back_1 : (b c d : ℕ) → v ≤ 0x7F → code_by v b c d ≡ v
  unfolding code_by
  back_1 b c d h = rw (le-leb v 0x7F h) refl

  back_2 : (c d : ℕ) → 0x7F < v → v ≤ 0x7FF → code_by (0xC0 + v / 64) (0x80 + v % 64) c d ≡ v
  unfolding code_by
  back_2 c d l h = rw (lt-leb (0xC0 + v / 64) 0x7F (omega arith), le-leb (0xC0 + v / 64) 0xDF (omega arith)) (omega arith)

  back_3 : (d : ℕ) → 0x7FF < v → v ≤ 0xFFFF → code_by (0xE0 + v / 4096) (0x80 + v / 64 % 64) (0x80 + v % 64) d ≡ v
  unfolding code_by
  back_3 d l h =
      rw (lt-leb (0xE0 + v / 4096) 0x7F (omega arith), lt-leb (0xE0 + v / 4096) 0xDF (omega arith), le-leb (0xE0 + v / 4096) 0xEF (omega arith)) (omega arith)

  back_4 : 0xFFFF < v → code_by (0xF0 + v / 262144) (0x80 + v / 4096 % 64) (0x80 + v / 64 % 64) (0x80 + v % 64) ≡ v
  unfolding code_by
  back_4 l =
      rw (lt-leb (0xF0 + v / 262144) 0x7F (omega arith), lt-leb (0xF0 + v / 262144) 0xDF (omega arith), lt-leb (0xF0 + v / 262144) 0xEF (omega arith))
      (digits (v / 64) (v / 4096) (v / 262144) (v % 64) (v / 64 % 64) (v / 4096 % 64) (omega arith) (omega arith) (omega arith))
    where
      digits : (x y z a b c : ℕ) → v ≡ x * 64 + a → x ≡ y * 64 + b → y ≡ z * 64 + c
          → (0xF0 + z - 0xF0) * 262144 + (0x80 + c - 0x80) * 4096 + (0x80 + b - 0x80) * 64 + (0x80 + a - 0x80) ≡ v
      digits x y z a b c p q r = omega arith

code_of : (s : List ℕ) (i v : ℕ) (r : List ℕ) → drop i s ≡ encoding_of v ++ r → code_at s i ≡ v
code_of s i v r e = go (leb v 0x7F) (leb v 0x7FF) (leb v 0xFFFF) refl refl refl
  where
    shape : (l : List ℕ) → encoding_of v ≡ l → drop i s ≡ l ++ r
    shape l q = e ∙ ap (λ (x : List ℕ). x ++ r) q

    go : (x y z : Bool) → leb v 0x7F ≡ x → leb v 0x7FF ≡ y → leb v 0xFFFF ≡ z → code_at s i ≡ v
    go true y z p q t =
        let k = leb-true v 0x7F p in
        let w = shape (v ∷ []) (enc_1 v k) in
        rw (byte_first s i (v ∷ r) w) (back_1 v (byte_at s (i + 1)) (byte_at s (i + 2)) (byte_at s (i + 3)) k)
    go false true z p q t =
        let k = leb-false v 0x7F p in
        let l = leb-true v 0x7FF q in
        let a₀ = 0xC0 + v / 64 in
        let b₀ = 0x80 + v % 64 in
        let w = shape (a₀ ∷ b₀ ∷ []) (enc_2 v a₀ b₀ k l refl refl) in
        rw (byte_first s i (a₀ ∷ b₀ ∷ r) w, byte_of s i 1 (a₀ ∷ b₀ ∷ r) w) (back_2 v (byte_at s (i + 2)) (byte_at s (i + 3)) k l)
    go false false true p q t =
        let k = leb-false v 0x7FF q in
        let l = leb-true v 0xFFFF t in
        let a₀ = 0xE0 + v / 4096 in
        let b₀ = 0x80 + v / 64 % 64 in
        let c₀ = 0x80 + v % 64 in
        let w = shape (a₀ ∷ b₀ ∷ c₀ ∷ []) (enc_3 v a₀ b₀ c₀ k l refl refl refl) in
        rw (byte_first s i (a₀ ∷ b₀ ∷ c₀ ∷ r) w, byte_of s i 1 (a₀ ∷ b₀ ∷ c₀ ∷ r) w, byte_of s i 2 (a₀ ∷ b₀ ∷ c₀ ∷ r) w)
        (back_3 v (byte_at s (i + 3)) k l)
    go false false false p q t =
        let k = leb-false v 0xFFFF t in
        let a₀ = 0xF0 + v / 262144 in
        let b₀ = 0x80 + v / 4096 % 64 in
        let c₀ = 0x80 + v / 64 % 64 in
        let d₀ = 0x80 + v % 64 in
        let w = shape (a₀ ∷ b₀ ∷ c₀ ∷ d₀ ∷ []) (enc_4 v a₀ b₀ c₀ d₀ k refl refl refl refl) in
        rw (
          byte_first s i (a₀ ∷ b₀ ∷ c₀ ∷ d₀ ∷ r) w,
          byte_of s i 1 (a₀ ∷ b₀ ∷ c₀ ∷ d₀ ∷ r) w,
          byte_of s i 2 (a₀ ∷ b₀ ∷ c₀ ∷ d₀ ∷ r) w,
          byte_of s i 3 (a₀ ∷ b₀ ∷ c₀ ∷ d₀ ∷ r) w,
        )
        (back_4 v k)

back_in : (n : ℕ) (s : List ℕ) (cs : List ℕ) (i : ℕ) → length s - i ≤ n → Scalars cs → drop i s ≡ encoded cs → decoded_in n s i ≡ cs
unfolding decoded_in encoded
back_in zero s [] i h c e = refl
back_in zero s (v ∷ cs) i h c e = let g = encoded_next s i v cs e in absurd (omega (arith, g.0))
back_in (suc n) s [] i h c e =
    let l : length (drop i s) ≡ 0 = ap length e in
    let m = length-drop i s in
    rw (le-ltb i (length s) (omega arith)) refl
back_in (suc n) s (v ∷ cs) i h c e =
    let g = encoded_next s i v cs e in
    let o = some_byte v in
    rw (lt-ltb i (length s) g.0, code_of s i v (encoded cs) e, sym (width_of s i v (encoded cs) c.0 e))
    (ap (λ (l : List ℕ). v ∷ l) (back_in n s cs (i + length (encoding_of v)) (omega (arith, g.0)) c.1 g.1))

pub decoded_is_back : DecodedIsBack
unfolding decoded
decoded_is_back cs h = back_in (length (encoded cs)) (encoded cs) cs 0 (omega arith) h refl
