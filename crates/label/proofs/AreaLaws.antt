-- An area with a label at some place:
-- the label was copied there, or written into the rest of the area from there on.
use Prim.Native.Nat.{ℕ, ◌+◌, ◌-◌, ◌≤◌, ◌<◌}
use native.Mathlib.Omega.{arith}
use mathlib.Core.Path.{◌≡◌, refl, sym, ◌∙◌, ap}
use mathlib.Core.Bool.{Bool, true, false}
use mathlib.Core.List.{List, [], ◌++◌, append_assoc, append-nil}
use lib.ListN.{length, take, drop, take-append-drop, length-append, length-take, length-drop, drop_of_length-le}
use lib.Seq.{take_all, take_at, drop_at, drop-drop, take-append-le, drop-append-le, length-take-le}
use lib.Dec.{leb}
use borrow.Author.Tests.{le-leb, lt-leb, leb-true}
use Rattle.std.specs.List.{copy_within}
use Rattle.base.specs.Pick.{pick}
use Rattle.base.specs.Lists.{written}
use Rattle.base.proofs.Areas.{written_length}
use Rattle.label.specs.Areas.{fitted, fitted_at}

-- `len` bytes from `from` on, copied to `at`
module _ (s : List ℕ) (from len at : ℕ) (h : from + len ≤ at) (r : at ≤ length s) where
  abbrev label : List ℕ
  label = take len (drop from s)

  label_length : length label ≡ len
  label_length = simp (length-take, length-drop) (omega arith)

  pub copy_none : length s - at < len → s ≡ fitted_at label at s
  unfolding fitted_at
  copy_none l =
      let e = lt-leb (length label) (length (drop at s)) (rw (label_length, length-drop) l) in
      rw e (sym (take-append-drop at s))

  pub copy_all : {t : List ℕ} → t ≡ copy_within s from (from + len) at → len ≤ length s - at → t ≡ fitted_at label at s
  unfolding fitted_at written
  copy_all p l =
      let z : from + len - from ≡ len = omega arith in
      let e = le-leb (length label) (length (drop at s)) (rw (label_length, length-drop) l) in
      rw (p, z, e, label_length, drop-drop len at s) (append_assoc (take at s) label (drop (at + len) s))

pub ruleset copy_label_laws = (copy_none, copy_all)

-- an area is as long after an answer as before, whether that fit or not
fitted_length : (out s : List ℕ) → length (fitted out s) ≡ length s
fitted_length out s = go (leb (length out) (length s)) refl
  where
    go : (t : Bool) → leb (length out) (length s) ≡ t → length (pick t (written out s) s) ≡ length s
    go true q = written_length out s (leb-true _ _ q)
    go false q = refl

module _ (out s : List ℕ) (at : ℕ) where
  -- the rest of the area was lent, and came back as `p`
  pub fitted_back : {p : List ℕ} → p ≡ fitted out (take (length s - at) (drop at s))
      → take at s ++ (p ++ drop (length s - at) (drop at s)) ≡ fitted_at out at s
  unfolding fitted_at
  fitted_back g =
      let l : length (drop at s) ≤ length s - at = rw length-drop (omega arith) in
      let f : take (length s - at) (drop at s) ≡ drop at s = take_all (length s - at) (drop at s) l in
      let z : drop (length s - at) (drop at s) ≡ [] = drop_of_length-le (drop at s) {i = length s - at} l in
      rw (z, append-nil, g, f) refl

  pub fitted_at_length : length (fitted_at out at s) ≡ length s
  unfolding fitted_at
  fitted_at_length = rw length-append (omega (arith, fitted_length out (drop at s), length-take at s, length-drop at s))

  -- the bytes before it stay
  module _ (from len : ℕ) (h : from + len ≤ at) (r : at ≤ length s) where
    within : (rest : List ℕ) → take len (drop from (take at s ++ rest)) ≡ take len (drop from (take at s))
    within rest =
        let n = length-take-le at s r in
        let a : from ≤ length (take at s) = omega arith in
        let b : len ≤ length (drop from (take at s)) = rw length-drop (omega arith) in
        rw (drop-append-le from (take at s) rest a, take-append-le len (drop from (take at s)) rest b) refl

    pub fitted_at_kept : take len (drop from (fitted_at out at s)) ≡ take len (drop from s)
    unfolding fitted_at
    fitted_at_kept =
        within (fitted out (drop at s)) ∙ sym (within (drop at s)) ∙ ap (λ (l : List ℕ). take len (drop from l)) (take-append-drop at s)

  module _ (h : at + length out ≤ length s) where
    fits : leb (length out) (length (drop at s)) ≡ true
    fits = le-leb (length out) (length (drop at s)) (rw length-drop (omega arith))

    -- and there it stands
    pub fitted_at_there : take (length out) (drop at (fitted_at out at s)) ≡ out
    unfolding fitted_at written
    fitted_at_there =
        rw (fits, drop_at (take at s) (out ++ drop (length out) (drop at s)) at (length-take-le at s (omega arith)))
        (take_at out (drop (length out) (drop at s)) (length out) refl)

    -- after what was written before
    pub fitted_at_next : (s₀ before : List ℕ) → s ≡ written before s₀ → at ≡ length before → fitted_at out at s ≡ written (before ++ out) s₀
    unfolding fitted_at written
    fitted_at_next s₀ before e q =
        let t : take at s ≡ before = rw e (take_at before (drop (length before) s₀) at (sym q)) in
        let d : drop at s ≡ drop (length before) s₀ = rw e (drop_at before (drop (length before) s₀) at (sym q)) in
        let n : drop (length out) (drop (length before) s₀) ≡ drop (length (before ++ out)) s₀ =
        drop-drop (length out) (length before) s₀ ∙ rw length-append refl in
        rw (fits, t, d, n) (sym (append_assoc before out (drop (length (before ++ out)) s₀)))
