-- The library's UTF-8 (`IsUtf8`) is that of specs/Utf8:
-- both are the encodings of the same code points.
use Prim.Native.Nat.{ℕ, ◌+◌, ◌≤◌, ◌<◌}
use native.Mathlib.Omega.{arith}
use mathlib.Core.Path.{◌≡◌, refl, sym, ◌∙◌, subst}
use mathlib.Core.List.{List, [], ◌∷◌}
use mathlib.Core.Bool.{Bool, true, false, cond, true≢false}
use lib.Dec.{leb, ltb}
use lib.Utf8.{scalar, scalars, encode, encodes}
use borrow.Author.Tests.{lt-ltb, le-ltb, le-leb, lt-leb, leb-true, leb-false, ltb-true, ltb-false}
use Rattle.std.specs.Str.{IsUtf8}
use Rattle.std.proofs.Common.{◌-◌, length, take, drop}
use Rattle.std.proofs.lemmas.List.{take_rest}
use Rattle.simdutf8.proofs.Parts.{front_and_rest, rest_of_whole}
use Rattle.base.specs.Pick.{pick}
use Rattle.base.proofs.Bools.{and_left, and_right}
use Rattle.utf8.specs.Utf8.{utf8}
use Rattle.utf8.specs.Encoding.{is_scalar, encoding_of, encoded, decoded}
use Rattle.utf8.specs.Facts.{Scalars}
use Rattle.utf8.proofs.Encodings.{encoded_is_utf8, utf8_is_encoded}

-- the two tests of a bound
below : (c m n : ℕ) → m ≡ n + 1 → ltb c m ≡ leb c n
below c m n e = go (leb c n) refl
  where
    go : (t : Bool) → leb c n ≡ t → ltb c m ≡ t
    go true q = let l = leb-true c n q in lt-ltb c m (omega arith)
    go false q = let l = leb-false c n q in le-ltb c m (omega arith)

scalar_same : (c : ℕ) → scalar c ≡ is_scalar c
scalar_same c = low (ltb c 0xD800) refl
  where
    high : (t : Bool) → leb c 0x10FFFF ≡ t → 0xDFFF < c → scalar c ≡ is_scalar c
    high true q h =
        let l = leb-true c 0x10FFFF q in
        rw (le-ltb c 0xD800 (omega arith), le-leb 0xE000 c (omega arith), lt-ltb c 0x110000 (omega arith), q, le-leb 0xD800 c (omega arith), lt-leb c 0xDFFF h) refl
    high false q h =
        let l = leb-false c 0x10FFFF q in
        rw (le-ltb c 0xD800 (omega arith), le-leb 0xE000 c (omega arith), le-ltb c 0x110000 (omega arith), q) refl

    middle : (t : Bool) → leb c 0xDFFF ≡ t → 0xD800 ≤ c → scalar c ≡ is_scalar c
    middle true q h =
        let l = leb-true c 0xDFFF q in
        rw (le-ltb c 0xD800 h, lt-leb 0xE000 c (omega arith), le-leb c 0x10FFFF (omega arith), le-leb 0xD800 c h, q) refl
    middle false q h = high (leb c 0x10FFFF) refl (leb-false c 0xDFFF q)

    low : (t : Bool) → ltb c 0xD800 ≡ t → scalar c ≡ is_scalar c
    low true q =
        let l = ltb-true c 0xD800 q in
        rw (q, le-leb c 0x10FFFF (omega arith), lt-leb 0xD800 c l) refl
    low false q = middle (leb c 0xDFFF) refl (ltb-false c 0xD800 q)

scalars_so : (cs : List ℕ) → scalars cs ≡ true → Scalars cs
scalars_so [] h = tt
scalars_so (c ∷ cs) h = (sym (scalar_same c) ∙ and_left (scalar c) (scalars cs) h, scalars_so cs (and_right (scalar c) (scalars cs) h))

scalars_are : (cs : List ℕ) → Scalars cs → scalars cs ≡ true
scalars_are [] h = refl
scalars_are (c ∷ cs) h = rw (scalar_same c, h.0) (scalars_are cs h.1)

encode_same : (c : ℕ) → encode c ≡ encoding_of c
unfolding encode encoding_of
encode_same c = rw (below c 0x80 0x7F refl, below c 0x800 0x7FF refl, below c 0x10000 0xFFFF refl) (go (leb c 0x7F) (leb c 0x7FF) (leb c 0xFFFF) _ _ _ _)
  where
    go : (t u v : Bool) (x y z w : List ℕ) → cond t x (cond u y (cond v z w)) ≡ pick t x (pick u y (pick v z w))
    go true u v x y z w = refl
    go false true v x y z w = refl
    go false false true x y z w = refl
    go false false false x y z w = refl

encodes_same : (cs : List ℕ) → encodes cs ≡ encoded cs
unfolding encoded
encodes_same [] = refl
encodes_same (c ∷ cs) = rw (encode_same c, encodes_same cs) refl

pub standard_accepted : (s : List ℕ) → IsUtf8 s → utf8 s ≡ true
standard_accepted s h = subst (λ (z : List ℕ). utf8 z ≡ true) (sym (encodes_same h.0) ∙ h.1.1) (encoded_is_utf8 h.0 (scalars_so h.0 h.1.0))

pub accepted_standard : (s : List ℕ) → utf8 s ≡ true → IsUtf8 s
accepted_standard s h = let d = utf8_is_encoded s h in (decoded s, (scalars_are (decoded s) d.0, encodes_same (decoded s) ∙ d.1))

-- what the library's check answers
pub standard_yes : (s : List ℕ) → IsUtf8 s → true ≡ utf8 s
standard_yes s h = sym (standard_accepted s h)

pub standard_no : (s : List ℕ) → (IsUtf8 s → ⊥) → false ≡ utf8 s
standard_no s n = go (utf8 s) refl
  where
    go : (t : Bool) → utf8 s ≡ t → false ≡ t
    go true q = absurd (n (accepted_standard s q))
    go false q = refl

pub ruleset standard_laws = (standard_yes, standard_no)

-- where a front is known to be UTF-8, the rest tells whether all is
pub rest_tells : (s : List ℕ) (at : ℕ) → at ≤ length s → IsUtf8 (take at s) → utf8 (take (length s - at) (drop at s)) ≡ utf8 s
rest_tells s at within front = rw take_rest (go (utf8 (drop at s)) refl)
  where
    go : (t : Bool) → utf8 (drop at s) ≡ t → t ≡ utf8 s
    go true q = standard_yes s (front_and_rest s at within front (accepted_standard (drop at s) q))
    go false q = standard_no s (λ whole. absurd (true≢false (sym (standard_accepted (drop at s) (rest_of_whole s at within front whole)) ∙ q)))
