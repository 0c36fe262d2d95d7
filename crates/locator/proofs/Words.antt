-- A matcher's word at a place: byte after byte,
-- and beside the rest of the text.
use Prim.Native.Nat.{ℕ, ◌+◌, ◌-◌, ◌≤◌, ◌<◌}
use native.Mathlib.Numerals.{add-one}
use native.Mathlib.Omega.{arith}
use mathlib.Core.Path.{◌≡◌, refl, ap}
use mathlib.Core.List.{List, [], ◌∷◌}
use mathlib.Core.Bool.{Bool, true, false, ◌&&◌}
use lib.ListN.{length, get_or, take, drop, length-drop}
use lib.Seq.{drop-cons, take_all}
use lib.Dec.{eqb}
use borrow.Author.Tests.{lt-ltb}
use Rattle.std.specs.Char.{to_ascii_lowercase}
use Rattle.std.proofs.lemmas.Grind.{common_steps}
use Rattle.std.proofs.lemmas.Bool.Decides.{nat_tests}
use Rattle.std.specs.List.{list_all, zip}
use Rattle.base.specs.Lists.{byte_at}
use Rattle.locator.specs.Locators.{lower, fits}

-- the library's small form of a letter is the definition's
pub lower_is : (b : ℕ) → to_ascii_lowercase b ≡ lower b
unfolding lower
lower_is b = grind (arith, nat_tests, common_steps)

-- a byte of a word, and the byte that stands at its place
abbrev pub alike : ℕ × ℕ → Bool
alike p = eqb (to_ascii_lowercase p.1) p.0

-- a word that is no longer than the rest of the text fits where each of its bytes stands there
fits_drop : (w s : List ℕ) (i : ℕ) → length w ≤ length s - i → list_all alike (zip w (drop i s)) ≡ fits w s i (length s)
unfolding fits
fits_drop [] s i h = refl
fits_drop (x ∷ xs) s i h = rw (drop-cons s i 0 (omega arith), lt-ltb i (length s) (omega arith), ← add-one i, lower_is) (ap (λ t. eqb (lower (byte_at s i)) x && t) (fits_drop xs s (i + 1) (omega arith)))

pub fits_alike : (w s : List ℕ) (i : ℕ) → length w ≤ length s - i → list_all alike (zip w (take (length s - i) (drop i s))) ≡ fits w s i (length s)
fits_alike w s i h = rw (take_all (length s - i) (drop i s) (omega (arith, length-drop i s))) (fits_drop w s i h)

-- a word that fits ends by the end
pub fits_by : (w s : List ℕ) (i e : ℕ) → i ≤ e → fits w s i e ≡ true → i + length w ≤ e
unfolding fits
fits_by [] s i e h t = omega arith
fits_by (x ∷ xs) s i e h t = grind (arith, nat_tests, fits_by xs s (i + 1) e)

-- a longer word than the rest of the text does not fit
pub fits_no : (w s : List ℕ) (i : ℕ) → i ≤ length s → length s - i < length w → fits w s i (length s) ≡ false
fits_no w s i l h = grind (arith, fits_by w s i (length s) l)

-- nor one that begins with another byte than the small form of the one there
pub fits_other : (w s : List ℕ) (i e : ℕ) → 0 < length w → eqb (get_or w 0 0) (lower (byte_at s i)) ≡ false → fits w s i e ≡ false
unfolding fits
fits_other [] s i e h t = absurd (omega arith)
fits_other (x ∷ xs) s i e h t = grind (arith, nat_tests)
