-- UTF-8: how wide a character is, a text read character by character,
-- and what refuses a text in the calls that ask for more.
use Prim.Native.Nat.{ℕ, zero, suc, ◌+◌, ◌-◌, ◌≤◌, ◌<◌}
use native.Mathlib.Omega.{arith}
use mathlib.Core.Path.{◌≡◌, refl, sym, ◌∙◌}
use mathlib.Core.List.{List}
use mathlib.Core.Bool.{Bool, true, false, and-false}
use lib.ListN.{length}
use lib.Dec.{eqb}
use borrow.Author.Tests.{ne_eqb, le-leb, lt-leb, lt-ltb, le-ltb}
use Rattle.base.specs.Pick.{pick}
use Rattle.base.specs.Lists.{byte_at}
use Rattle.base.specs.Refusals.{number_of}
use Rattle.base.specs.declared.refusal.Refusal.{Refusal}
use Rattle.base.specs.declared.refusal.Refusal.TheVariants.{TextTooLong, TextNotUtf8, NoBracket, EscapedBracket, NoGroup, UnknownMode, PoolBroken, NoEntry, IndexTooShort, NoRoom}
use Rattle.utf8.specs.Utf8.{too_long, two_bytes, three_bytes, four_bytes, char_width, utf8_in, utf8}
use Rattle.utf8.specs.Refusal.{after_text, text_refusal}

-- the first byte tells the width
two_high : (a b : ℕ) → 0xDF < a → two_bytes a b ≡ false
two_high a b h = simp (lt-leb a 0xDF h, and-false)

three_low : (a b c : ℕ) → a ≤ 0xDF → three_bytes a b c ≡ false
three_low a b c h = simp (ne_eqb a 0xE0 (omega arith), lt-leb 0xE1 a (omega arith), ne_eqb a 0xED (omega arith), lt-leb 0xEE a (omega arith))

three_high : (a b c : ℕ) → 0xEF < a → three_bytes a b c ≡ false
three_high a b c h = simp (ne_eqb a 0xE0 (omega arith), lt-leb a 0xEC (omega arith), ne_eqb a 0xED (omega arith), lt-leb a 0xEF h, and-false)

four_low : (a b c d : ℕ) → a ≤ 0xEF → four_bytes a b c d ≡ false
four_low a b c d h = simp (ne_eqb a 0xF0 (omega arith), lt-leb 0xF1 a (omega arith), ne_eqb a 0xF4 (omega arith))

module _ (s : List ℕ) (i : ℕ) where
  pub char_1 : byte_at s i ≤ 0x7F → 1 ≡ char_width s i
  unfolding char_width
  char_1 h = rw (le-leb (byte_at s i) 0x7F h)

  module _ {b : ℕ} (e : b ≡ byte_at s (i + 1)) where
    pub char_2 : {two : Bool} {r : ℕ} → 0x7F < byte_at s i → byte_at s i ≤ 0xDF → two ≡ two_bytes (byte_at s i) b → r ≡ pick two 2 0 → r ≡ char_width s i
    unfolding char_width
    char_2 h l p q =
        q ∙ rw (lt-leb (byte_at s i) 0x7F h, ← e, three_low (byte_at s i) b (byte_at s (i + 2)) l, four_low (byte_at s i) b (byte_at s (i + 2)) (byte_at s (i + 3)) (omega arith), p)

    module _ {c : ℕ} (d : c ≡ byte_at s (i + 2)) where
      pub char_3 : {three : Bool} {r : ℕ} → 0xDF < byte_at s i → byte_at s i ≤ 0xEF → three ≡ three_bytes (byte_at s i) b c → r ≡ pick three 3 0 → r ≡ char_width s i
      unfolding char_width
      char_3 h l p q =
          q ∙ rw (lt-leb (byte_at s i) 0x7F (omega arith), ← e, ← d, two_high (byte_at s i) b h, four_low (byte_at s i) b c (byte_at s (i + 3)) l, p)

      pub char_4 : {x : ℕ} {four : Bool} {r : ℕ} → 0xEF < byte_at s i → x ≡ byte_at s (i + 3) → four ≡ four_bytes (byte_at s i) b c x → r ≡ pick four 4 0 → r ≡ char_width s i
      unfolding char_width
      char_4 h k p q =
          q ∙ rw (lt-leb (byte_at s i) 0x7F (omega arith), ← e, ← d, ← k, two_high (byte_at s i) b (omega arith), three_high (byte_at s i) b c h, p)

-- the check is at `at`, and `w` is what it gives of the whole text: some number of turns, enough for the bytes that are left, gives it
pub record Rest (s : List ℕ) (at : ℕ) (w : Bool) : Type 0 where
  pub turns : ℕ
  pub enough : length s - at ≤ turns
  pub gives : w ≡ utf8_in turns s at

pub rest_start : (s : List ℕ) → Rest s 0 (utf8 s)
unfolding utf8
rest_start s = record { turns = length s; enough = omega arith; gives = refl }

module _ (s : List ℕ) (at : ℕ) {w : Bool} (rest : Rest s at w) where
  pub rest_end : length s ≤ at → true ≡ w
  unfolding utf8_in
  rest_end h = go rest.turns rest.gives
    where
      go : (f : ℕ) → w ≡ utf8_in f s at → true ≡ w
      go zero p = sym (p ∙ rw (le-ltb at (length s) h))
      go (suc f) p = sym (p ∙ rw (le-ltb at (length s) h))

  pub rest_next : {x : ℕ} → at < length s → x ≡ char_width s at → (x ≡ 0 → ⊥) → Rest s (at + x) w
  unfolding utf8_in
  rest_next {x} h e z = go rest.turns rest.enough rest.gives
    where
      go : (f : ℕ) → length s - at ≤ f → w ≡ utf8_in f s at → Rest s (at + x) w
      go zero l p = absurd (omega arith)
      go (suc f) l p = record { turns = f; enough = omega arith; gives = p ∙ rw (lt-ltb at (length s) h, ← e, ne_eqb x 0 z) refl }

-- what refuses a text ----------------------------------------------------------------------------------------------------------------

-- what comes next where the text is accepted, and the text's own refusal where it is not
refusal_cases : (l u : Bool) (next : ℕ) → pick l 1 (pick u next 2) ≡ pick (eqb (pick l 1 (pick u 0 2)) 0) next (pick l 1 (pick u 0 2))
refusal_cases true u next = refl
refusal_cases false true next = refl
refusal_cases false false next = refl

module _ (s : List ℕ) (next : ℕ) where
  pub accepted_after : 0 ≡ text_refusal s → after_text s next ≡ next
  unfolding text_refusal after_text
  accepted_after z = refusal_cases (too_long s) (utf8 s) next ∙ rw (← z)

  pub refused_after : (e : Refusal) → number_of e ≡ text_refusal s → after_text s next ≡ number_of e
  unfolding text_refusal after_text
  refused_after e q = refusal_cases (too_long s) (utf8 s) next ∙ rw (← q) (numbered e)
    where
      numbered : (e : Refusal) → pick (eqb (number_of e) 0) next (number_of e) ≡ number_of e
      numbered TextTooLong = refl
      numbered TextNotUtf8 = refl
      numbered NoBracket = refl
      numbered EscapedBracket = refl
      numbered NoGroup = refl
      numbered UnknownMode = refl
      numbered PoolBroken = refl
      numbered NoEntry = refl
      numbered IndexTooShort = refl
      numbered NoRoom = refl
