-- A number in decimal, with its sign, has no white byte,
-- so trims leave it as it is.
use Prim.Native.Nat.{ℕ, zero, suc, ◌+◌, ◌-◌, ◌/◌, ◌%◌, ◌≤◌, ◌<◌}
use native.Mathlib.Omega.{arith}
use mathlib.Core.Path.{◌≡◌, refl, sym, ◌∙◌}
use mathlib.Core.List.{List, [], ◌∷◌, ◌++◌}
use mathlib.Core.Logic.{◌⊎◌, inl, inr}
use mathlib.Core.Bool.{Bool, true, false, and-false}
use lib.ListN.{length, length-append, get_or-append}
use lib.Seq.{get_or_at}
use lib.Dec.{leb, ltb}
use borrow.Author.Tests.{ltb-true, ltb-false, ne_eqb, lt-leb}
use Rattle.base.specs.Pick.{pick}
use Rattle.base.specs.Lists.{byte_at}
use Rattle.base.proofs.Bools.{split}
use Rattle.white.specs.White.{is_white}
use Rattle.text.specs.Trim.{trim_start, trim_end}
use Rattle.white.proofs.Whites.{white_ascii}
use Rattle.text.proofs.Laws.{start_stop, end_stop}
use Rattle.pool.specs.Numbers.{signed}
use Rattle.decimal.specs.Decimal.{digit_count, count_in, last_digits, decimal}
use Rattle.decimal.proofs.Laws.{decimal_length}
use Rattle.source.specs.Decimal.{signed_decimal}

-- from `-` to `9`
InDecimal : ℕ → Type 0
InDecimal b = (45 ≤ b) × (b ≤ 57)

-- one digit more at the end
digit_more : (l : List ℕ) (b i : ℕ) → InDecimal b → ((j : ℕ) → j < length l → InDecimal (byte_at l j)) → i < length (l ++ (b ∷ [])) → InDecimal (byte_at (l ++ (b ∷ [])) i)
digit_more l b i d h g = go (split (ltb i (length l)))
  where
    go : (ltb i (length l) ≡ true) ⊎ (ltb i (length l) ≡ false) → InDecimal (byte_at (l ++ (b ∷ [])) i)
    go (inl p) = let q = ltb-true i (length l) p in rw (get_or-append l (b ∷ []) 0 i q) (h i q)
    go (inr p) =
        let q = ltb-false i (length l) p in
        let e : length l ≡ i = omega (arith, length-append l (b ∷ [])) in
        rw (get_or_at l b [] 0 i e) d

digit_in : (k n i : ℕ) → i < length (last_digits k n) → InDecimal (byte_at (last_digits k n) i)
unfolding last_digits InDecimal
digit_in zero n i h = absurd (omega arith)
digit_in (suc k) n i h = digit_more (last_digits k (n / 10)) (48 + n % 10) i (omega arith, omega arith) (digit_in k (n / 10)) h

signed_in : (n : Bool) (m i : ℕ) → i < length (signed_decimal (signed n m)) → InDecimal (byte_at (signed_decimal (signed n m)) i)
unfolding signed_decimal decimal InDecimal
signed_in true m zero h = (omega arith, omega arith)
signed_in true m (suc i) h = digit_in (digit_count m) m i (omega arith)
signed_in false m i h = digit_in (digit_count m) m i h

signed_plain : (n : Bool) (m i : ℕ) → i < length (signed_decimal (signed n m)) → is_white (signed_decimal (signed n m)) i ≡ false
unfolding InDecimal
signed_plain n m i h =
    let q = signed_in n m i h in
    let b = byte_at (signed_decimal (signed n m)) i in
    white_ascii (signed_decimal (signed n m)) i (omega (arith, q.1)) ∙ simp (lt-leb b 0x0D (omega (arith, q.0)), ne_eqb b 0x20 (omega (arith, q.0)), and-false) refl

count_some : (f n : ℕ) → 0 < count_in f n
unfolding count_in
count_some zero n = omega arith
count_some (suc f) n = go (leb 10 n)
  where
    go : (t : Bool) → 0 < pick t (suc (count_in f (n / 10))) 1
    go true = omega arith
    go false = omega arith

pub signed_some : (n : Bool) (m : ℕ) → 0 < length (signed_decimal (signed n m))
unfolding signed_decimal
signed_some true m = omega arith
signed_some false m = omega (arith, decimal_length m, count_some 19 m)

-- bytes none of which is white
module _ (s : List ℕ) (plain : (i : ℕ) → i < length s → is_white s i ≡ false) (h : 0 < length s) where
  plain_start : trim_start s 0 (length s) ≡ 0
  plain_start = sym (start_stop s 0 (length s) refl h refl (plain 0 h))

  plain_end : trim_end s 0 (length s) ≡ length s
  plain_end = sym (end_stop s 0 (length s) refl h refl (plain (length s - 1) (omega arith)))

pub signed_start : (n : Bool) (m : ℕ) → trim_start (signed_decimal (signed n m)) 0 (length (signed_decimal (signed n m))) ≡ 0
signed_start n m = plain_start (signed_decimal (signed n m)) (signed_plain n m) (signed_some n m)

pub signed_end : (n : Bool) (m : ℕ) → trim_end (signed_decimal (signed n m)) 0 (length (signed_decimal (signed n m))) ≡ length (signed_decimal (signed n m))
signed_end n m = plain_end (signed_decimal (signed n m)) (signed_plain n m) (signed_some n m)
