-- Areas that are written from their front,
-- and whose rest was lent and came back.
use Prim.Native.Nat.{ℕ, suc, ◌+◌, ◌-◌, ◌≤◌, ◌<◌}
use native.Mathlib.Omega.{arith}
use mathlib.Core.Path.{◌≡◌, refl, sym, ◌∙◌}
use mathlib.Core.List.{List, [], ◌∷◌, ◌++◌, append_assoc, append-nil}
use lib.ListN.{length, take, drop, set, length-append, length-take, length-drop, drop_of_length-le}
use lib.Seq.{take_all, take_at, drop_at, drop-drop, drop-append-add, drop-cons, set_at, length-take-le}
use Rattle.base.specs.Lists.{written}

-- an area that was written is as long as it was
pub written_length : {A : Type 0} (out s : List A) → length out ≤ length s → length (written out s) ≡ length s
unfolding written
written_length out s h = simp (length-append, length-drop) (omega arith)

pub written_front : {A : Type 0} (out s : List A) (k : ℕ) → k ≡ length out → take k (written out s) ≡ out
unfolding written
written_front out s k e = take_at out (drop (length out) s) k (sym e)

pub written_none : {A : Type 0} (s : List A) → s ≡ written [] s
unfolding written
written_none s = refl

-- what is written over a shorter front
pub written_over : {A : Type 0} (a b s : List A) → length a ≤ length b → written b (written a s) ≡ written b s
unfolding written
written_over a b s h =
    let d : length b ≡ length a + (length b - length a) = omega arith in
    let p : drop (length b) (a ++ drop (length a) s) ≡ drop (length b) s =
    rw d (drop-append-add a (drop (length a) s) (length b - length a) ∙ drop-drop (length b - length a) (length a) s) in
    rw p refl

-- one number more
pub written_byte : (s₀ s out : List ℕ) (k x : ℕ) → s ≡ written out s₀ → k ≡ length out → length out < length s₀ → set s k x ≡ written (out ++ (x ∷ [])) s₀
unfolding written
written_byte s₀ s out k x e q h =
    let l : length (out ++ (x ∷ [])) ≡ suc (length out) = simp length-append (omega arith) in
    rw (e, drop-cons s₀ (length out) 0 h, set_at out _ (drop (suc (length out)) s₀) x k (sym q), l) (sym (append_assoc out (x ∷ []) (drop (suc (length out)) s₀)))

-- the rest of an area has room for what it and the front have room for together
pub rest_room : (s : List ℕ) (k n : ℕ) → k + n ≤ length s → n ≤ length (take (length s - k) (drop k s))
rest_room s k n h = simp (length-take, length-drop) (omega arith)

-- the area `s` from `n` on was lent, and came back as `p`, with `r` at its front
pub came_back : (n : ℕ) (s r : List ℕ) {p : List ℕ} → p ≡ written r (take (length s - n) (drop n s))
    → take n s ++ (p ++ drop (length s - n) (drop n s)) ≡ take n s ++ written r (drop n s)
came_back n s r g =
    let l : length (drop n s) ≤ length s - n = rw length-drop (omega arith) in
    let f : take (length s - n) (drop n s) ≡ drop n s = take_all (length s - n) (drop n s) l in
    let z : drop (length s - n) (drop n s) ≡ [] = drop_of_length-le (drop n s) {i = length s - n} l in
    rw (z, append-nil, g, f) refl

module _ (n : ℕ) (s r : List ℕ) {p : List ℕ} (h : n + length r ≤ length s) (g : p ≡ written r (take (length s - n) (drop n s))) where
  back : take n s ++ (p ++ drop (length s - n) (drop n s)) ≡ take n s ++ r ++ drop (length r) (drop n s)
  unfolding written
  back = came_back n s r g ∙ sym (append_assoc (take n s) r (drop (length r) (drop n s)))

  front_length : length (take n s ++ r) ≡ n + length r
  front_length = simp (length-append, length-take-le n s (omega arith)) refl

  pub back_length : length (take n s ++ (p ++ drop (length s - n) (drop n s))) ≡ length s
  back_length = rw back (simp (length-append, length-drop, length-take-le n s (omega arith)) (omega arith))

  -- `w` is what the area is to hold in the end: after `r` there is still `rest` to write
  pub back_next : {w : List ℕ} (rest : List ℕ) → w ≡ take n s ++ written (r ++ rest) (drop n s)
      → w ≡ take (n + length r) (take n s ++ (p ++ drop (length s - n) (drop n s)))
      ++ written rest (drop (n + length r) (take n s ++ (p ++ drop (length s - n) (drop n s))))
  unfolding written
  back_next rest e =
      let t = take_at (take n s ++ r) (drop (length r) (drop n s)) (n + length r) front_length in
      let d = drop_at (take n s ++ r) (drop (length r) (drop n s)) (n + length r) front_length in
      let k : drop (length (r ++ rest)) (drop n s) ≡ drop (length rest) (drop (length r) (drop n s)) =
      rw length-append (sym (drop-drop (length rest) (length r) (drop n s))) in
      e ∙ rw (back, t, d, k) (simp append_assoc refl)

-- the same where the area `s` is `s₀` with `out` at its front
pub written_after : (s₀ s out b p : List ℕ) (k : ℕ) → s ≡ written out s₀ → k ≡ length out → length out + length b ≤ length s₀
    → p ≡ written b (take (length s - k) (drop k s)) → take k s ++ (p ++ drop (length s - k) (drop k s)) ≡ written (out ++ b) s₀
unfolding written
written_after s₀ s out b p k e q h g =
    let d : drop k s ≡ drop (length out) s₀ = rw e (drop_at out (drop (length out) s₀) k (sym q)) in
    let t : take k s ≡ out = rw e (take_at out (drop (length out) s₀) k (sym q)) in
    let n : drop (length b) (drop (length out) s₀) ≡ drop (length (out ++ b)) s₀ = drop-drop (length b) (length out) s₀ ∙ rw length-append refl in
    came_back k s b g ∙ rw (t, d, n) (sym (append_assoc out b (drop (length (out ++ b)) s₀)))
