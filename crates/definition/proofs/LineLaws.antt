-- Definition lines among the group records, in the form of the goals:
-- without a colon none starts, and from the end of the last on none does.
use Prim.Native.Nat.{ℕ, zero, suc, ◌+◌, ◌-◌, ◌≤◌, ◌<◌}
use native.Mathlib.Omega.{arith}
use mathlib.Core.Path.{◌≡◌, refl, sym, subst}
use mathlib.Core.List.{List}
use mathlib.Core.Logic.{⊎_elim}
use mathlib.Core.Bool.{Bool, false, and-false}
use Rattle.base.specs.Last.{last_end}
use Rattle.std.specs.Prelude.{Option}
use Rattle.std.specs.Option.{unwrap_or}
use Rattle.base.specs.Found.{Found}
use Rattle.base.specs.LastPlace.{last}
use Rattle.definition_line.specs.Lines.{colon_after}
use Rattle.definition.specs.Lines.{defines_in, defines_key_in, line_in, LinesBelow}
use Rattle.records.specs.Records.{close_of_record}
use Rattle.records.proofs.Founds.{found_last}
use Rattle.base.proofs.Bools.{split}
use Rattle.base.proofs.Lasts.{last_end_by, last_end_behind}
use Rattle.base.proofs.Sames.{same_pointwise}

-- without a colon no definition line starts, whatever its key
pub no_colon : (text groups items key : List ℕ) (g : ℕ) → colon_after text (close_of_record groups g) ≡ false
    → defines_key_in text groups items key g ≡ false
unfolding defines_key_in defines_in
no_colon text groups items key g h = rw (h, and-false) refl

pub ruleset key_laws = (no_colon, same_pointwise)

-- from the end of the last definition line on, no group record starts one
pub below_end : (text groups items : List ℕ) (n : ℕ) {end : ℕ} → end ≡ last_end (defines_in text groups items) (n - 0) 0 0
    → LinesBelow text groups items n end
below_end text groups items n {end} p =
    let f = defines_in text groups items in
    record {
      bounded = omega (arith, last_end_by f (n - 0) 0 0 (omega arith));
      none = λ g l u.
          ⊎_elim
          (λ t. absurd (omega (arith, last_end_behind f (n - 0) 0 0 g (omega arith) (omega arith) t)))
          (λ t. t)
          (split (f g));
    }

-- places at which a test fails do not count
last_none : (f : ℕ → Bool) (m i d : ℕ) → ((j : ℕ) → i ≤ j → j < i + m → f j ≡ false) → last f (i + m) d ≡ last f i d
unfolding last
last_none f zero i d h = let e : i + 0 ≡ i = omega arith in rw e refl
last_none f (suc m) i d h =
    let e : i + suc m ≡ suc (i + m) = omega arith in
    rw (e, h (i + m) (omega arith) (omega arith)) (last_none f m i d (λ j l u. h j l (omega arith)))

-- the search for the last line of a key
module _ (text groups items key : List ℕ) (n : ℕ) where
  no_key : (g : ℕ) → defines_in text groups items g ≡ false → defines_key_in text groups items key g ≡ false
  unfolding defines_key_in
  no_key g p = rw p refl

  line_start : (lines : ℕ) → LinesBelow text groups items n lines
      → line_in text groups items n key ≡ last (defines_key_in text groups items key) lines n
  unfolding line_in
  line_start lines b =
      let e : lines + (n - lines) ≡ n = omega (arith, b.bounded) in
      rw e at
      (last_none (defines_key_in text groups items key) (n - lines) lines n (λ g l u. no_key g (b.none g l (omega (arith, b.bounded)))))

  pub line_found : (lines : ℕ) → LinesBelow text groups items n lines → (r : Option ℕ)
      → ((d : ℕ) → unwrap_or r d ≡ last (defines_key_in text groups items key) lines d) → Found n (line_in text groups items n key) r
  line_found lines b r h =
      let P : ℕ → Type 0 = λ place. Found n place r in
      subst P (sym (line_start lines b)) (found_last (defines_key_in text groups items key) lines n r h b.bounded)

-- all lie below the number of all records
pub all_below : (text groups items : List ℕ) (n : ℕ) → LinesBelow text groups items n n
all_below text groups items n = record { bounded = omega arith; none = λ g l u. absurd (omega arith) }
