-- The label by author and year, trimmed piece by piece, in the form of the goals,
-- and that a number has no white space.
use Prim.Native.Nat.{ℕ, ◌-◌, ◌≤◌, ◌<◌}
use native.Mathlib.Omega.{arith}
use mathlib.Core.Path.{◌≡◌, refl, sym, ◌∙◌, ap}
use mathlib.Core.List.{List, [], ◌∷◌, ◌++◌}
use mathlib.Core.Bool.{Bool, false}
use lib.ListN.{length, take, drop, length-append, length-drop}
use lib.Seq.{take_all, take-length, length-take-le}
use Rattle.base.specs.First.{first}
use Rattle.base.specs.Lists.{part}
use Rattle.base.specs.Last.{last_end}
use Rattle.base.proofs.Parts.{part_is, part_length}
use Rattle.text.specs.Trim.{trim_start, trim_end, trim}
use Rattle.text.proofs.Trims.{start_by, start_plain, end_from, end_by, end_behind}
use Rattle.decimal.specs.Decimal.{decimal}
use Rattle.pool.specs.Numbers.{signed}
use Rattle.source.specs.Decimal.{signed_decimal}
use Rattle.source.specs.Entry.{is_empty}
use Rattle.label.specs.Labels.{or_number, author_year}
use Rattle.label.proofs.Decimals.{signed_some, signed_start, signed_end}
use Rattle.label.proofs.Joins.{trim_both, trim_first, trim_second}

some_left : (s : List ℕ) → 0 < length s → is_empty s ≡ false
some_left [] h = absurd (omega arith)
some_left (x ∷ xs) h = refl

-- the trimmed part
module _ (s : List ℕ) {a b : ℕ} (p : a ≡ trim_start s 0 (length s)) (q : b ≡ trim_end s (trim_start s 0 (length s)) (length s)) where
  pub trim_order : a ≤ b
  trim_order =
      let h = start_by s 0 (length s) in
      let f = end_from s (trim_start s 0 (length s)) (length s) in
      omega arith

  pub trim_inside : b ≤ length s
  trim_inside =
      let h = start_by s 0 (length s) in
      let g = end_by s (trim_start s 0 (length s)) (length s) in
      omega arith

  pub trim_is : take (b - a) (drop a s) ≡ trim s
  unfolding trim
  trim_is =
      let m = trim_order in
      let k = trim_inside in
      rw (q, p) (sym (part_is s (trim_start s 0 (length s)) (trim_end s (trim_start s 0 (length s)) (length s)) (omega arith) (omega arith)))

pub ruleset trim_laws = (trim_order, trim_inside, trim_is)

-- bytes that are not all white, trimmed
trimmed_some : (s : List ℕ) → trim_start s 0 (length s) < length s → 0 < length (trim s)
unfolding trim
trimmed_some s h =
    let k = trim_start s 0 (length s) in
    let a = end_behind s k (length s) k (omega arith) h (start_plain s 0 (length s) h) in
    let b = end_by s k (length s) in
    rw (part_length s k (trim_end s k (length s)) (omega arith) (omega arith)) (omega arith)

-- "author, space, year, trimmed, or the number if nothing is left"
module _ (n : ℕ) (A Y : List ℕ) where
  left_is : {M : List ℕ} → trim (A ++ (32 ∷ Y)) ≡ M → 0 < length M → M ≡ author_year n A Y
  unfolding author_year or_number
  left_is {M} e h = rw (e, some_left M h) refl

  module _ {k : ℕ} (p : k ≡ trim_start A 0 (length A)) where
    pub both_left : {y : List ℕ} → k < length A → 0 < trim_end Y 0 (length Y) → y ≡ take (trim_end Y 0 (length Y)) Y
        → take (length A - k) (drop k A) ++ (32 ∷ y) ≡ author_year n A Y
    both_left h g e =
        let d : take (length A - k) (drop k A) ≡ drop k A = take_all (length A - k) (drop k A) (rw length-drop (omega arith)) in
        rw d (left_is (trim_both A Y (rw p at h) g ∙ rw (← p, ← e) refl) (rw length-append (omega arith)))

    pub author_left : k < length A → trim_end Y 0 (length Y) ≡ 0 → trim A ≡ author_year n A Y
    unfolding trim
    author_left h g = left_is (trim_first A Y (rw p at h) (omega arith)) (trimmed_some A (rw p at h))

    module _ {e : ℕ} (q : e ≡ trim_end A k (length A)) where
      end : e ≡ trim_end A (trim_start A 0 (length A)) (length A)
      end = q ∙ rw p refl

      pub author_order : k ≤ e
      author_order = trim_order A p end

      pub author_inside : e ≤ length A
      author_inside = trim_inside A p end

      pub author_slice : k < length A → trim_end Y 0 (length Y) ≡ 0 → take (e - k) (drop k A) ≡ author_year n A Y
      author_slice h g = trim_is A p end ∙ author_left h g

    pub year_left : length A ≤ k → or_number (trim Y) n ≡ author_year n A Y
    unfolding author_year trim
    year_left h = ap (λ (l : List ℕ). or_number l n) (sym (trim_second A Y (rw p at h)))

-- a year that is a number has no white space
trim_signed : (b : Bool) (m : ℕ) → trim (signed_decimal (signed b m)) ≡ signed_decimal (signed b m)
unfolding trim
trim_signed b m =
    let s = signed_decimal (signed b m) in
    rw (signed_start b m, signed_end b m) (part_is s 0 (length s) (omega arith) (omega arith) ∙ take_all (length s - 0) s (omega arith))

pub number_ends : (b : Bool) (m : ℕ) → 0 < trim_end (signed_decimal (signed b m)) 0 (length (signed_decimal (signed b m)))
number_ends b m = rw (signed_end b m) (signed_some b m)

pub number_whole : (b : Bool) (m : ℕ)
    → signed_decimal (signed b m) ≡ take (trim_end (signed_decimal (signed b m)) 0 (length (signed_decimal (signed b m)))) (signed_decimal (signed b m))
number_whole b m = rw (signed_end b m, take-length) refl

pub number_left : (n : ℕ) (A : List ℕ) (b : Bool) (m : ℕ) {k : ℕ} → k ≡ trim_start A 0 (length A) → length A ≤ k
    → signed_decimal (signed b m) ≡ author_year n A (signed_decimal (signed b m))
unfolding or_number
number_left n A b m p h =
    let e = trim_signed b m in
    let l = some_left (signed_decimal (signed b m)) (signed_some b m) in
    rw (e, l) at (year_left n A (signed_decimal (signed b m)) p h)

pub nothing_left : (n : ℕ) (A : List ℕ) {k : ℕ} → k ≡ trim_start A 0 (length A) → length A ≤ k → decimal n ≡ author_year n A []
unfolding or_number trim trim_start trim_end last_end part decimal first
nothing_left n A p h = year_left n A [] p h

-- no year
pub nothing_ends : trim_end [] 0 0 ≡ 0
unfolding trim_end last_end
nothing_ends = refl

-- a year without the white space at its end
pub end_part : (s : List ℕ) {e : ℕ} → e ≡ trim_end s 0 (length s) → e ≡ length (take e s)
end_part s {e} p = sym (length-take-le e s (omega (arith, end_by s 0 (length s))))

pub ruleset end_laws = (end_part, number_ends, number_whole, nothing_ends)

pub ruleset named_laws = (both_left, author_left, author_order, author_inside, author_slice, year_left, number_left, nothing_left)
