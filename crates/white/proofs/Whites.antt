-- White space: how wide a character is, which bytes can be its first and which a later one,
-- and that a byte below 128 is white space just by itself.
use Prim.Native.Nat.{ℕ, ◌+◌, ◌-◌, ◌≤◌, ◌<◌}
use native.Mathlib.Omega.{arith}
use mathlib.Core.Path.{◌≡◌, refl}
use mathlib.Core.List.{List}
use mathlib.Core.Logic.{◌⊎◌, inl, inr}
use mathlib.Core.Bool.{Bool, true, false, ◌||◌, false-and, and-false, or-false}
use lib.Dec.{leb, ltb}
use borrow.Author.Tests.{ne_eqb, le-ltb, ltb-true, ltb-false, lt-leb, leb-true}
use Rattle.base.specs.Pick.{pick}
use Rattle.base.specs.Lists.{byte_at}
use Rattle.base.proofs.Bools.{and_left, and_right, split}
use Rattle.white.specs.White.{white_one, white_two, white_three, space_width, is_white}
use Rattle.white.specs.Bytes.{is_ascii_graphic}

-- the width by the bytes
unfoldable pub width_by : ℕ → ℕ → ℕ → ℕ
width_by a b c = pick (white_one a) 1 (pick (white_two a b) 2 (pick (white_three a b c) 3 0))

pub width_is : (s : List ℕ) (i : ℕ) → space_width s i ≡ width_by (byte_at s i) (byte_at s (i + 1)) (byte_at s (i + 2))
unfolding space_width width_by
width_is s i = refl

-- a byte that is not from 80 to BF is no later byte of a white character
abbrev NotLater : ℕ → Type 0
NotLater b = (b < 0x80) ⊎ (0xBF < b)

not_second : (a b c : ℕ) → NotLater b → width_by a b c ≡ pick (white_one a) 1 0
unfolding width_by
not_second a b c (inl h) =
    simp (ne_eqb b 0x85 (omega arith), ne_eqb b 0xA0 (omega arith), ne_eqb b 0x9A (omega arith), ne_eqb b 0x80 (omega arith), ne_eqb b 0x81 (omega arith), and-false)
not_second a b c (inr h) =
    simp (ne_eqb b 0x85 (omega arith), ne_eqb b 0xA0 (omega arith), ne_eqb b 0x9A (omega arith), ne_eqb b 0x80 (omega arith), ne_eqb b 0x81 (omega arith), and-false)

not_third : (a b c : ℕ) → NotLater c → width_by a b c ≡ pick (white_one a) 1 (pick (white_two a b) 2 0)
unfolding width_by
not_third a b c (inl h) =
    simp (ne_eqb c 0x80 (omega arith), ne_eqb c 0xA8 (omega arith), ne_eqb c 0xA9 (omega arith), ne_eqb c 0xAF (omega arith), ne_eqb c 0x9F (omega arith), lt-leb 0x80 c (omega arith), false-and, and-false, or-false)
not_third a b c (inr h) =
    simp (ne_eqb c 0x80 (omega arith), ne_eqb c 0xA8 (omega arith), ne_eqb c 0xA9 (omega arith), ne_eqb c 0xAF (omega arith), ne_eqb c 0x9F (omega arith), lt-leb c 0x8A (omega arith), and-false, or-false)

at_most_one : (s : List ℕ) (i : ℕ) → NotLater (byte_at s (i + 1)) → space_width s i ≤ 1
at_most_one s i h = rw (width_is s i, not_second (byte_at s i) (byte_at s (i + 1)) (byte_at s (i + 2)) h) (go (white_one (byte_at s i)))
  where
    go : (t : Bool) → pick t 1 0 ≤ 1
    go true = omega arith
    go false = omega arith

third_by : (s : List ℕ) (i : ℕ) → NotLater (byte_at s (i + 2)) → space_width s i ≤ 2
third_by s i h =
    rw (width_is s i, not_third (byte_at s i) (byte_at s (i + 1)) (byte_at s (i + 2)) h) (go (white_one (byte_at s i)) (white_two (byte_at s i) (byte_at s (i + 1))))
  where
    go : (t u : Bool) → pick t 1 (pick u 2 0) ≤ 2
    go true u = omega arith
    go false true = omega arith
    go false false = omega arith

-- a byte below 128 is none
pub width_second : (a b c : ℕ) → b < 128 → width_by a b c ≡ pick (white_one a) 1 0
width_second a b c h = not_second a b c (inl h)

pub width_third : (a b c : ℕ) → c < 128 → width_by a b c ≡ pick (white_one a) 1 (pick (white_two a b) 2 0)
width_third a b c h = not_third a b c (inl h)

pub second_by : (s : List ℕ) (i : ℕ) → byte_at s (i + 1) < 128 → space_width s i ≤ 1
second_by s i h = at_most_one s i (inl h)

-- none of more bytes begins below C2
pub width_low : (s : List ℕ) (i : ℕ) → byte_at s i < 0xC2 → white_one (byte_at s i) ≡ false → space_width s i ≡ 0
unfolding space_width
width_low s i h w =
    let b = byte_at s i in
    rw w (simp (ne_eqb b 0xC2 (omega arith), ne_eqb b 0xE1 (omega arith), ne_eqb b 0xE2 (omega arith), ne_eqb b 0xE3 (omega arith)))

-- where no character begins, a byte that is no later one is no white space
module _ (s : List ℕ) (i : ℕ) (h : NotLater (byte_at s i)) (w : space_width s i ≡ 0) where
  width_here : (j : ℕ) → j ≡ i → space_width s j ≡ 0
  width_here j e = rw e w

  width_one : (j : ℕ) → j + 1 ≡ i → space_width s j ≤ 1
  width_one j e = at_most_one s j (rw e h)

  width_two : (j : ℕ) → j + 2 ≡ i → space_width s j ≤ 2
  width_two j e = third_by s j (rw e h)

  before_one : (ltb 0 i ≡ true) ⊎ (ltb 0 i ≡ false) → space_width s (i - 1) ≤ 1
  before_one (inl p) = let q = ltb-true 0 i p in width_one (i - 1) (omega arith)
  before_one (inr p) = let q = ltb-false 0 i p in omega (arith, width_here (i - 1) (omega arith))

  before_two : (ltb 1 i ≡ true) ⊎ (ltb 1 i ≡ false) → (ltb 0 i ≡ true) ⊎ (ltb 0 i ≡ false) → space_width s (i - 2) ≤ 2
  before_two (inl p) r = let q = ltb-true 1 i p in width_two (i - 2) (omega arith)
  before_two (inr p) (inl r) = let q = ltb-false 1 i p in let z = ltb-true 0 i r in omega (arith, width_one (i - 2) (omega arith))
  before_two (inr p) (inr r) = let q = ltb-false 0 i r in omega (arith, width_here (i - 2) (omega arith))

  none_here : is_white s i ≡ false
  unfolding is_white
  none_here = rw (w, le-ltb 1 (space_width s (i - 1)) (before_one (split (ltb 0 i))), le-ltb 2 (space_width s (i - 2)) (before_two (split (ltb 1 i)) (split (ltb 0 i))))

-- a byte that is no later one is white where a character begins at it
by_first : (s : List ℕ) (i : ℕ) → NotLater (byte_at s i) → is_white s i ≡ ltb 0 (space_width s i)
unfolding is_white
by_first s i h = go (ltb 0 (space_width s i)) refl
  where
    go : (t : Bool) → ltb 0 (space_width s i) ≡ t → is_white s i ≡ t
    go true q = rw q
    go false q = let l = ltb-false 0 (space_width s i) q in none_here s i h (omega arith)

pub first_low : (s : List ℕ) (i : ℕ) → byte_at s i < 0x80 → is_white s i ≡ ltb 0 (space_width s i)
first_low s i h = by_first s i (inl h)

pub first_high : (s : List ℕ) (i : ℕ) → 0xBF < byte_at s i → is_white s i ≡ ltb 0 (space_width s i)
first_high s i h = by_first s i (inr h)

-- a byte from 80 to BF is white where a character begins before it
pub later : (s : List ℕ) (i : ℕ) → 0x80 ≤ byte_at s i → byte_at s i ≤ 0xBF → is_white s i ≡ (ltb 1 (space_width s (i - 1)) || ltb 2 (space_width s (i - 2)))
unfolding is_white
later s i h k = rw (width_low s i (omega arith) (simp (lt-leb (byte_at s i) 13 (omega arith), ne_eqb (byte_at s i) 32 (omega arith), and-false)))

-- a byte below 128 that is no white space by itself is none
pub plain : (s : List ℕ) (i : ℕ) → byte_at s i < 128 → white_one (byte_at s i) ≡ false → is_white s i ≡ false
plain s i h w = none_here s i (inl h) (width_low s i (omega arith) w)

-- a byte below 128 is white space just by itself
pub white_ascii : (s : List ℕ) (i : ℕ) → byte_at s i < 128 → is_white s i ≡ white_one (byte_at s i)
unfolding is_white space_width
white_ascii s i h = go (white_one (byte_at s i)) refl
  where
    go : (t : Bool) → white_one (byte_at s i) ≡ t → is_white s i ≡ t
    go true q = rw q
    go false q = plain s i h q

-- an ASCII graphic character is no white space
pub graphic_plain : (s : List ℕ) (i : ℕ) → is_ascii_graphic (byte_at s i) ≡ true → is_white s i ≡ false
graphic_plain s i h =
    let l = leb-true 33 (byte_at s i) (and_left (leb 33 (byte_at s i)) _ h) in
    let u = leb-true (byte_at s i) 126 (and_right (leb 33 (byte_at s i)) _ h) in
    plain s i (omega arith) (simp (lt-leb (byte_at s i) 13 (omega arith), ne_eqb (byte_at s i) 32 (omega arith), and-false))
