-- Little-endian numbers, by laws over the width,
-- and the sign of a number of eight bytes.
use Prim.Native.Nat.{ℕ, zero, suc, ◌+◌, ◌-◌, ◌≤◌, ◌<◌}
use native.Mathlib.Omega.{arith}
use mathlib.Core.Path.{◌≡◌, refl}
use mathlib.Core.List.{List, [], ◌∷◌}
use mathlib.Core.Bool.{Bool, true, false}
use lib.ListN.{length}
use lib.Dec.{ltb}
use borrow.Author.Tests.{lt-ltb, le-ltb, ltb-true, ltb-false}
use Rattle.std.specs.Int.{w16, w64, from_le_bytes, cast_signed}
use Rattle.base.specs.Lists.{byte_at, part}
use Rattle.base.proofs.Parts.{part_byte}
use Rattle.pool.specs.Numbers.{le_at, u16_at, signed_of}
use Rattle.pool.specs.Readers.{sign_of}

-- two bytes
pub two_bytes : (s : List ℕ) (i : ℕ) → from_le_bytes w16 (byte_at s i ∷ byte_at s (i + 1) ∷ []) ≡ u16_at s i
unfolding le_at
two_bytes s i = omega arith

-- eight bytes
pub eight_bytes : (s : List ℕ) (i : ℕ)
    → from_le_bytes w64 (byte_at s i ∷ byte_at s (i + 1) ∷ byte_at s (i + 2) ∷ byte_at s (i + 3) ∷ byte_at s (i + 4) ∷ byte_at s (i + 5) ∷ byte_at s (i + 6) ∷ byte_at s (i + 7) ∷ [])
    ≡ le_at 8 s i
unfolding le_at
eight_bytes s i =
    let b : i + 1 + 1 ≡ i + 2 = omega arith in
    let c : i + 2 + 1 ≡ i + 3 = omega arith in
    let d : i + 3 + 1 ≡ i + 4 = omega arith in
    let e : i + 4 + 1 ≡ i + 5 = omega arith in
    let f : i + 5 + 1 ≡ i + 6 = omega arith in
    let g : i + 6 + 1 ≡ i + 7 = omega arith in
    rw (b, c, d, e, f, g) (omega arith)

-- the number in a part
pub le_part : (w : ℕ) (s : List ℕ) (a e i : ℕ) → a ≤ e → e ≤ length s → i + w ≤ e - a → le_at w (part s a e) i ≡ le_at w s (a + i)
unfolding le_at
le_part zero s a e i p q h = refl
le_part (suc w) s a e i p q h =
    let r : a + (i + 1) ≡ a + i + 1 = omega arith in
    rw (part_byte s a e p q i (omega arith), le_part w s a e (i + 1) p q (omega arith), r) refl

-- the sign of a number of eight bytes
sign_low : (n : ℕ) → n < 9223372036854775808 → sign_of (cast_signed w64 n) ≡ signed_of 8 n
unfolding signed_of
sign_low n h = rw (lt-ltb n 9223372036854775808 h) refl

sign_high : (n : ℕ) → 9223372036854775808 ≤ n → n < 18446744073709551616 → sign_of (cast_signed w64 n) ≡ signed_of 8 n
unfolding signed_of
sign_high n h l =
    let p : suc (18446744073709551616 - suc n) ≡ 18446744073709551616 - n = omega arith in
    rw (le-ltb n 9223372036854775808 h, p) refl

pub sign_eight : (n : ℕ) → n < 18446744073709551616 → sign_of (cast_signed w64 n) ≡ signed_of 8 n
sign_eight n l = go (ltb n 9223372036854775808) refl
  where
    go : (t : Bool) → ltb n 9223372036854775808 ≡ t → sign_of (cast_signed w64 n) ≡ signed_of 8 n
    go true q = sign_low n (ltb-true _ _ q)
    go false q = sign_high n (ltb-false _ _ q) l
