-- Reference order, in the form of the goals:
-- an insertion by rank, the numbers in order, and a mode by its number.
use Prim.Native.Nat.{ℕ, zero, suc, ◌+◌, ◌-◌, ◌≤◌, ◌<◌, min}
use native.Mathlib.Omega.{arith}
use native.Mathlib.Numerals.{add-one}
use mathlib.Core.Path.{◌≡◌, refl, sym, ◌∙◌, ap}
use mathlib.Core.List.{List, [], ◌∷◌, ◌++◌, append-nil}
use mathlib.Core.Bool.{Bool, true, false}
use lib.ListN.{length, get_or, set, take, drop, drop_of_length-le, length-take, length-drop}
use lib.Seq.{length-take-le}
use lib.Dec.{eqb}
use borrow.Author.Tests.{eq-eqb, ne_eqb, eqb-true, eqb-false}
use borrow.Rule.Slice.PartMut.{put_mid}
use Rattle.base.specs.Pick.{pick}
use Rattle.base.specs.First.{first}
use Rattle.base.specs.Lists.{written, up_from}
use Rattle.base.proofs.Searches.{first_shift}
use Rattle.base.proofs.Ups.{up_length}
use Rattle.base.proofs.Areas.{written_none, written_byte}
use Rattle.order.specs.Order.{less, insert_by, inserted_from, reference_order}
use Rattle.order.specs.References.{references_in}
use Rattle.order.specs.Ordered.{greater_at, shifted}
use Rattle.order.proofs.Insertions.{insert_length}

-- numbers one place further ------------------------------------------------------------------------------------------------------

shifted_cons : (n y : ℕ) (ys : List ℕ) (i x : ℕ) → shifted n (y ∷ ys) (suc i) x ≡ y ∷ shifted n ys i x
unfolding shifted
shifted_cons zero y ys i x = refl
shifted_cons (suc n) y ys i x =
    let z : suc i + 1 ≡ suc (i + 1) = omega arith in
    rw z (shifted_cons n y (set ys i x) (i + 1) (get_or ys i 0))

shifted_front : (n : ℕ) (area : List ℕ) (x : ℕ) → n < length area → shifted n area 0 x ≡ x ∷ (take n area ++ drop (suc n) area)
unfolding shifted
shifted_front n [] x h = absurd (omega arith)
shifted_front zero (y ∷ ys) x h = refl
shifted_front (suc n) (y ∷ ys) x h =
    shifted_cons n x ys 0 y ∙ ap (λ (l : List ℕ). x ∷ l) (shifted_front n ys y (omega arith))

last_of : (k : ℕ) (l : List ℕ) → k < length l → drop k (take (suc k) l) ≡ get_or l k 0 ∷ []
last_of k [] h = absurd (omega arith)
last_of zero (y ∷ ys) h = refl
last_of (suc k) (y ∷ ys) h = last_of k ys (omega arith)

front_of : (k : ℕ) (l : List ℕ) → take k (take (suc k) l) ≡ take k l
front_of zero l = refl
front_of (suc k) [] = refl
front_of (suc k) (y ∷ ys) = ap (λ (l : List ℕ). y ∷ l) (front_of k ys)

turned : (k : ℕ) (l : List ℕ) (v : ℕ) → k < length l
    → set ((drop k (take (suc k) l) ++ take k (take (suc k) l)) ++ drop (suc k) l) 0 v ≡ v ∷ (take k l ++ drop (suc k) l)
turned k l v h = rw (last_of k l h, front_of k l) refl

pub rotated : (from k : ℕ) (area mid : List ℕ) (v : ℕ) → from + k < length area
    → mid ≡ drop k (take (suc k) (drop from area)) ++ take k (take (suc k) (drop from area))
    → set (take from area ++ (mid ++ drop (suc k) (drop from area))) from v ≡ shifted k area from v
rotated from k [] mid v h e = absurd (omega arith)
rotated zero k (y ∷ ys) mid v h e = let l : k < length (y ∷ ys) = omega arith in rw e (turned k (y ∷ ys) v l ∙ sym (shifted_front k (y ∷ ys) v l))
rotated (suc from) k (y ∷ ys) mid v h e = ap (λ (l : List ℕ). y ∷ l) (rotated from k ys mid v (omega arith) e) ∙ sym (shifted_cons k y ys from v)

pub rotated_to : (area mid : List ℕ) (from to v : ℕ) → from ≤ to → to < length area
    → mid ≡ drop (length (take (to + 1 - from) (drop from area)) - 1) (take (to + 1 - from) (drop from area)) ++ take (length (take (to + 1 - from) (drop from area)) - 1) (take (to + 1 - from) (drop from area))
    → set (put_mid from (to + 1 - from) area mid) from v ≡ shifted (to - from) area from v
rotated_to area mid from to v h l e =
    let n : to + 1 - from ≡ suc (to - from) = omega arith in
    let m : length (take (suc (to - from)) (drop from area)) - 1 ≡ to - from = rw (length-take, length-drop) (omega arith) in
    rw n (rotated from (to - from) area mid v (omega arith) (rw (n, m) at e))

-- inserted by rank ---------------------------------------------------------------------------------------------------------------

-- the test at a place after the first
greater_after : (rank : ℕ → List ℕ) (bytes : List ℕ) (y : ℕ) (ys : List ℕ) (x : ℕ) → greater_at rank bytes ys x ≡ greater_at rank bytes (y ∷ ys) (x + 1)
unfolding greater_at
greater_after rank bytes y ys x = rw (add-one x) refl

-- one place further from the place of a rank on: that is the insertion
insert_shift : (rank : ℕ → List ℕ) (bytes : List ℕ) (k : ℕ) → bytes ≡ rank k → (c : ℕ) (area : List ℕ) → c < length area
    → shifted (c - first (greater_at rank bytes area) c 0) area (first (greater_at rank bytes area) c 0) k
    ≡ insert_by rank (take c area) k ++ drop (suc c) area
unfolding shifted first insert_by greater_at
insert_shift rank bytes k e c [] h = absurd (omega arith)
insert_shift rank bytes k e zero (y ∷ ys) h = refl
insert_shift rank bytes k e (suc c) (y ∷ ys) h = rw (← e) (go (less bytes (rank y)) (insert_shift rank bytes k e c ys (omega arith)))
  where
    z : suc c - 0 ≡ suc c
    z = omega arith

    p : ℕ
    p = first (greater_at rank bytes ys) c 0

    q : p + 1 ≡ first (greater_at rank bytes (y ∷ ys)) c 1
    q = first_shift (greater_at rank bytes ys) (greater_at rank bytes (y ∷ ys)) 1 c 0 (λ x l. greater_after rank bytes y ys x)

    u : suc c - (p + 1) ≡ c - p
    u = omega arith

    go : (t : Bool) → shifted (c - p) ys p k ≡ insert_by rank (take c ys) k ++ drop (suc c) ys
        → shifted (suc c - pick t 0 (first (greater_at rank bytes (y ∷ ys)) c 1)) (y ∷ ys) (pick t 0 (first (greater_at rank bytes (y ∷ ys)) c 1)) k
        ≡ pick t (k ∷ y ∷ take c ys) (y ∷ insert_by rank (take c ys) k) ++ drop (suc c) ys
    go true r = rw z (shifted_cons c k ys 0 y ∙ ap (λ (l : List ℕ). k ∷ l) (shifted_front c ys y (omega arith)))
    go false r = rw (← q, u, add-one p) (shifted_cons (c - p) y ys p k ∙ ap (λ (l : List ℕ). y ∷ l) r)

pub insert_written : (rank : ℕ → List ℕ) (c d : ℕ) (numbers bytes : List ℕ) {p : ℕ} {out : List ℕ} → bytes ≡ rank d
    → p ≡ first (greater_at rank bytes numbers) c 0 → c < length numbers
    → out ≡ shifted (c - p) numbers p d → out ≡ written (insert_by rank (take c numbers) d) numbers
unfolding written
insert_written rank c d numbers bytes e q h o =
    let l = insert_length rank (take c numbers) d in
    o ∙ rw (q, l, length-take-le c numbers (omega arith)) (insert_shift rank bytes d e c numbers h)

-- by number ----------------------------------------------------------------------------------------------------------------------

up_next : (k i : ℕ) → up_from k (suc i) ≡ up_from k i ++ ((k + i) ∷ [])
unfolding up_from
up_next k zero = let z : k + 0 ≡ k = omega arith in rw z refl
up_next k (suc i) = let z : k + suc i ≡ suc k + i = omega arith in rw z (ap (λ (l : List ℕ). k ∷ l) (up_next (suc k) i))

module _ (before : List ℕ) (i : ℕ) where
  pub up_start : before ≡ written (up_from 1 0) before
  unfolding up_from
  up_start = written_none before

  pub up_more : {numbers : List ℕ} (c : ℕ) → numbers ≡ written (up_from 1 i) before → i < c → c ≤ length before → set numbers i (i + 1) ≡ written (up_from 1 (i + 1)) before
  up_more {numbers} c p h m =
      let l = up_length 1 i in
      let z : 1 + i ≡ i + 1 = omega arith in
      let e : up_from 1 i ++ ((i + 1) ∷ []) ≡ up_from 1 (i + 1) = rw (add-one i) (rw (z, add-one i) at (sym (up_next 1 i))) in
      rw (← e) (written_byte before numbers (up_from 1 i) i (i + 1) p (sym l) (omega arith))

-- a front that was written, before what lies after it
pub written_part : (out area : List ℕ) (s : ℕ) → length out ≡ s → s ≤ length area → written out (take s area) ++ drop s area ≡ written out area
unfolding written
written_part out area s e h =
    let n : length (take s area) ≡ s = length-take-le s area h in
    let z : drop (length out) (take s area) ≡ [] = drop_of_length-le (take s area) {i = length out} (omega arith) in
    rw (z, append-nil, e) refl

pub up_back : (s : ℕ) (area : List ℕ) {i : ℕ} {items : List ℕ} → i ≡ length (take s area) → s ≤ length area
    → items ≡ written (up_from 1 i) (take s area) → items ++ drop s area ≡ written (up_from 1 s) area
up_back s area e h p =
    let n : length (take s area) ≡ s = length-take-le s area h in
    rw (p, e, n) (written_part (up_from 1 s) area s (up_length 1 s) h)

pub ruleset up_laws = (up_start, up_more, up_back)

-- a mode's number counts only by whether it is 0
pub clamped_order : (mode : ℕ) (rank : ℕ → List ℕ) (count : ℕ) → reference_order (min mode 1) rank count ≡ reference_order mode rank count
unfolding reference_order
clamped_order mode rank count = go (eqb mode 0) refl
  where
    go : (t : Bool) → eqb mode 0 ≡ t → pick (eqb (min mode 1) 0) (up_from 1 count) (inserted_from rank count [] 1) ≡ pick t (up_from 1 count) (inserted_from rank count [] 1)
    go true q = let e = eqb-true mode 0 q in rw (eq-eqb (min mode 1) 0 (omega arith)) refl
    go false q = let e = eqb-false mode 0 q in rw (ne_eqb (min mode 1) 0 (omega arith)) refl

pub mode_written : (text pool groups items : List ℕ) (n m mode sources : ℕ) (area : List ℕ) {clamped : ℕ} {r : List ℕ} → clamped ≡ min mode 1
    → r ≡ written (references_in text pool groups items n m clamped sources) area → r ≡ written (references_in text pool groups items n m mode sources) area
unfolding references_in
mode_written text pool groups items n m mode sources area p e = e ∙ rw (p, clamped_order) refl

pub ruleset mode_laws = (mode_written)
