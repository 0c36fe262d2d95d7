-- A part at the front of an area, and a text in an area,
-- a part after the other.
use Prim.Native.Nat.{ℕ, ◌+◌, ◌-◌, ◌≤◌, ◌<◌, min}
use native.Mathlib.Omega.{arith}
use mathlib.Core.Path.{◌≡◌, refl, subst, ◌∙◌}
use mathlib.Core.List.{List, [], ◌∷◌, ◌++◌, append_assoc}
use lib.ListN.{length, take, drop, length-append}
use Rattle.base.specs.Lists.{written}
use Rattle.base.proofs.Areas.{written_after, back_length}
use Rattle.source_parts.specs.declared.Text.{Text}
use Rattle.source_parts.specs.Joined.{beside}
use Rattle.source_parts.specs.Parts.{Holds}

-- three pieces, `a`, `b` and `d`, at the front of an area
pub pieces_written : (a b d area one : List ℕ) (k e : ℕ) {p q two : List ℕ} → length (a ++ (b ++ d)) ≤ length area → k ≡ length a → e ≡ k + length b
    → one ≡ written a area → p ≡ written b (take (length one - k) (drop k one))
    → two ≡ take k one ++ (p ++ drop (length one - k) (drop k one))
    → q ≡ written d (take (length two - e) (drop e two))
    → take e two ++ (q ++ drop (length two - e) (drop e two)) ≡ written (a ++ (b ++ d)) area
pieces_written a b d area one k e {p} {q} {two} h x y o g t r =
    let l : length a + (length b + length d) ≤ length area = simp length-append at h in
    let m : length (a ++ b) ≡ length a + length b = length-append a b in
    let u : two ≡ written (a ++ b) area = t ∙ written_after area one a b p k o x (omega arith) g in
    written_after area two (a ++ b) d q e u (omega arith) (omega arith) r ∙ rw append_assoc refl

-- the same text by an equation
pub holds_as : {text text' before : List ℕ} {t : Text} → text ≡ text' → Holds text before t → Holds text' before t
holds_as {text} {text'} {before} {t} e h = let P : List ℕ → Type 0 = λ x. Holds x before t in subst P e h

-- a part `b` that has room
pub push_room : (text before b p : List ℕ) (t u : Text) {k : ℕ} → Holds text before t → k ≡ min (length b) 18446744073709551615
    → u.len ≡ min (t.len + k) 18446744073709551615 → length t.area.now < 18446744073709551615 → u.len ≤ length t.area.now
    → p ≡ written b (take (length t.area.now - t.len) (drop t.len t.area.now))
    → u.area.now ≡ take t.len t.area.now ++ (p ++ drop (length t.area.now - t.len) (drop t.len t.area.now)) → Holds (text ++ b) before u
push_room text before b p t u h n q s l w e =
    let c = h.count in
    let z = h.size in
    let y : t.len ≡ length text = omega arith in
    let m : t.len + length b ≤ length t.area.now = omega arith in
    record {
      count = simp length-append (omega arith);
      size = rw e (back_length t.len t.area.now b m w ∙ z);
      area = λ (r : length (text ++ b) ≤ length before). e ∙ written_after before t.area.now text b p t.len (h.area (omega arith)) y (omega arith) w;
    }

-- what two texts are beside each other, by how many bytes they are counted to have
pub beside_none : (sep a b : List ℕ) {k : ℕ} → k ≡ min (length b) 18446744073709551615 → k ≡ 0 → a ≡ beside sep a b
unfolding beside
beside_none sep [] [] e z = refl
beside_none sep (x ∷ xs) [] e z = refl
beside_none sep a (x ∷ xs) e z = absurd (omega arith)

pub beside_first : (sep a b : List ℕ) {k : ℕ} → k ≡ min (length a) 18446744073709551615 → k ≡ 0 → a ++ b ≡ beside sep a b
unfolding beside
beside_first sep [] b e z = refl
beside_first sep (x ∷ xs) b e z = absurd (omega arith)

pub beside_both : (sep a b : List ℕ) {k n : ℕ} → k ≡ min (length a) 18446744073709551615 → (k ≡ 0 → ⊥) → n ≡ min (length b) 18446744073709551615
    → (n ≡ 0 → ⊥) → a ++ sep ++ b ≡ beside sep a b
unfolding beside
beside_both sep [] b e z f y = absurd (z e)
beside_both sep (x ∷ xs) [] e z f y = absurd (y f)
beside_both sep (x ∷ xs) (y ∷ ys) e z f w = append_assoc (x ∷ xs) sep (y ∷ ys)
