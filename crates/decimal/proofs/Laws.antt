-- The digits of a number: how many they are, and the loop that writes them.
-- The laws are in the form of the goals.
use Prim.Native.Nat.{ℕ, zero, suc, ◌+◌, ◌-◌, ◌*◌, ◌/◌, ◌^◌, max, ◌%◌, ◌≤◌, ◌<◌}
use native.Mathlib.Omega.{arith}
use mathlib.Core.Path.{◌≡◌, refl, sym, ◌∙◌}
use mathlib.Core.List.{List, [], ◌∷◌, ◌++◌, append_assoc}
use mathlib.Core.Bool.{Bool, true, false}
use lib.ListN.{length, drop, set, length-append, length-set}
use lib.Dec.{leb}
use lib.Seq.{drop-cons, drop-set-lt, get_or-set_same}
use borrow.Author.Tests.{le-leb, lt-leb, leb-true, leb-false}
use Rattle.base.specs.Pick.{pick}
use Rattle.base.specs.Lists.{written}
use Rattle.decimal.specs.Decimal.{count_in, digit_count, last_digits, decimal}

pow_suc : (k : ℕ) → 10 ^ suc k ≡ 10 * 10 ^ k
pow_suc k = omega arith

pow_pos : (k : ℕ) → 0 < 10 ^ k
pow_pos zero = omega arith
pow_pos (suc k) = let h = pow_pos k in omega (arith, pow_suc k)

-- a number from 10 to the power `k` on and below the next power has one digit more than `k`
count_pow : (f k m : ℕ) → k ≤ f → 10 ^ k ≤ m → m < 10 * 10 ^ k → count_in f m ≡ suc k
unfolding count_in
count_pow zero zero m l a b = refl
count_pow zero (suc k) m l a b = absurd (omega arith)
count_pow (suc f) zero m l a b = rw (lt-leb 10 m b)
count_pow (suc f) (suc k) m l a b =
    let e : 10 ^ suc k ≡ 10 * 10 ^ k = pow_suc k in
    let p = pow_pos k in
    rw (le-leb 10 m (omega arith), count_pow f k (m / 10) (omega arith) (omega arith) (omega arith)) refl

count_small : (f m : ℕ) → count_in f m ≤ f + 1
unfolding count_in
count_small zero m = omega arith
count_small (suc f) m = go (leb 10 m) (count_small f (m / 10))
  where
    go : (t : Bool) → count_in f (m / 10) ≤ f + 1 → pick t (suc (count_in f (m / 10))) 1 ≤ suc f + 1
    go true h = omega arith
    go false h = omega arith

digits_length : (k n : ℕ) → length (last_digits k n) ≡ k
unfolding last_digits
digits_length zero n = refl
digits_length (suc k) n = simp (length-append, digits_length k (n / 10)) (omega arith)

pub decimal_length : (n : ℕ) → length (decimal n) ≡ digit_count n
unfolding decimal
decimal_length n = digits_length (digit_count n) n

-- a number of 64 bits has at most 20 digits
pub decimal_short : (n : ℕ) → length (decimal n) ≤ 20
decimal_short n = rw decimal_length (count_small 19 n)

count_one : (f m : ℕ) → m < 10 → count_in f m ≡ 1
unfolding count_in
count_one zero m h = refl
count_one (suc f) m h = rw (lt-leb _ _ h)

-- the greatest power of ten by `n` tells how many digits it has
pub digits_pow : (n k : ℕ) → k < 20 → 10 ^ k ≤ max n 1 → max n 1 < 10 * 10 ^ k → 1 + k ≡ length (decimal n)
digits_pow n k l a b = rw decimal_length (count (leb 1 n) refl)
  where
    count : (t : Bool) → leb 1 n ≡ t → 1 + k ≡ digit_count n
    count true q =
        let h = leb-true 1 n q in
        let e : max n 1 ≡ n = omega arith in
        omega (arith, count_pow 19 k n (omega arith) (omega arith) (omega arith))
    count false q =
        let h = leb-false 1 n q in
        omega (arith, count_pow 19 k 1 (omega arith) (omega arith) (omega arith), count_one 19 1 (omega arith), count_one 19 n (omega arith))

pub ruleset count_laws = (digits_pow)

-- one digit more
digits_step : (k m : ℕ) (out : List ℕ) → 0 < k → k ≤ length out
    → last_digits (k - 1) (m / 10) ++ drop (k - 1) (set out (k - 1) (48 + m % 10)) ≡ last_digits k m ++ drop k out
unfolding last_digits
digits_step zero m out h l = absurd (omega arith)
digits_step (suc k) m out h l =
    let p : suc k - 1 ≡ k = omega arith in
    let b : k < length (set out k (48 + m % 10)) = rw length-set l in
    rw (p, drop-cons (set out k (48 + m % 10)) k 0 b, get_or-set_same out k (48 + m % 10) 0 l, drop-set-lt (suc k) out k (48 + m % 10) (omega arith))
    (sym (append_assoc (last_digits k (m / 10)) ((48 + m % 10) ∷ []) (drop (suc k) out)))

-- the loop that writes from the back: `i` places are left of `out`, which was `s`, and `m` is to be written there
pub record Writing (n i m : ℕ) (s out : List ℕ) : Type 0 where
  pub long : length out ≡ length s
  pub left : last_digits i m ++ drop i out ≡ written (decimal n) s

pub write_start : (n i : ℕ) (s : List ℕ) → i ≡ length (decimal n) → Writing n i n s s
unfolding written decimal
write_start n i s e = record { long = refl; left = rw (e, digits_length) refl }

module _ (n i m : ℕ) (s out : List ℕ) (w : Writing n i m s out) where
  pub write_step : 0 < i → i ≤ length out → Writing n (i - 1) (m / 10) s (set out (i - 1) (48 + m % 10))
  write_step h l = record { long = rw length-set w.long; left = digits_step i m out h l ∙ w.left }

  pub write_done : i ≤ 0 → out ≡ written (decimal n) s
  unfolding last_digits
  write_done h = let p : i ≡ 0 = omega arith in rw p at w.left

pub ruleset write_laws = (write_start, write_step, write_done)
