-- Areas that are written from some place on:
-- nothing, one list after another, and parts that were lent.
use Prim.Native.Nat.{ℕ, ◌+◌, ◌-◌, ◌≤◌}
use native.Mathlib.Omega.{arith}
use mathlib.Core.Path.{◌≡◌, refl, sym, ◌∙◌, ap}
use mathlib.Core.List.{List, [], ◌++◌, append_assoc}
use lib.ListN.{length, take, drop, take-append-drop, length-append, length-drop}
use lib.Seq.{take_at, drop_at, drop-drop, length-take-le}
use Rattle.base.specs.Lists.{written}
use Rattle.base.proofs.Areas.{came_back}
use Rattle.sweep.specs.Areas.{written_at}

module _ (n : ℕ) (area : List ℕ) where
  -- nothing written
  pub written_none : area ≡ written_at n [] area
  unfolding written_at
  written_none = let z : n + 0 ≡ n = omega arith in rw z (sym (take-append-drop n area))

  module _ (out : List ℕ) (h : n + length out ≤ length area) where
    -- an area stays as long as it was
    pub written_length : length (written_at n out area) ≡ length area
    unfolding written_at
    written_length = simp (length-append, length-take-le n area (omega arith), length-drop) (omega arith)

    -- `more` is written right after `out`
    pub written_more : (more : List ℕ) (m : ℕ) → m ≡ n + length out → written_at m more (written_at n out area) ≡ written_at n (out ++ more) area
    unfolding written_at
    written_more more m e =
        let joined : n + length out + length more ≡ n + length (out ++ more) = let a = length-append out more in omega arith in
        let front : List ℕ = take n area ++ out in
        let rest : List ℕ = drop (n + length out) area in
        let l : length front ≡ m = simp (length-append, length-take-le n area (omega arith)) (omega arith) in
        let w : take n area ++ (out ++ rest) ≡ front ++ rest = sym (append_assoc (take n area) out rest) in
        let t : take m (take n area ++ (out ++ rest)) ≡ front = ap (take m) w ∙ take_at front rest m l in
        let d : drop (m + length more) (take n area ++ (out ++ rest)) ≡ drop (n + length (out ++ more)) area
        = sym (drop-drop (length more) m (take n area ++ (out ++ rest)))
        ∙ ap (drop (length more)) (ap (drop m) w ∙ drop_at front rest m l)
        ∙ drop-drop (length more) (n + length out) area
        ∙ ap (λ (k : ℕ). drop k area) joined in
        let after : List ℕ = drop (n + length (out ++ more)) area in
        rw (t, d) (append_assoc (take n area) out (more ++ after) ∙ ap (λ (x : List ℕ). take n area ++ x) (sym (append_assoc out more after)))

-- from the front on
pub written_front : (out area : List ℕ) → written_at 0 out area ≡ written out area
unfolding written_at written
written_front out area = let z : 0 + length out ≡ length out = omega arith in rw z

-- the part from `n` on was lent, and came back with `out` at its front
pub written_part : (n : ℕ) (area out back : List ℕ) → n ≤ length area → back ≡ written out (take (length area - n) (drop n area))
    → take n area ++ (back ++ drop (length area - n) (drop n area)) ≡ written_at n out area
unfolding written written_at
written_part n area out back h e = came_back n area out e ∙ rw drop-drop refl

-- the part of `n` numbers from `k` on was lent, and came back as `out`
pub part_written : (area out : List ℕ) (k n : ℕ) → n ≡ length out → take k area ++ (out ++ drop n (drop k area)) ≡ written_at k out area
unfolding written_at
part_written area out k n e = rw (drop-drop, e) refl
