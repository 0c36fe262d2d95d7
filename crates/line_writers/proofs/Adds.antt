-- Bytes added one after the other to a text in an area.
-- A loop's invariant says what is left to add.
use Rattle.std.proofs.Common.{ℕ, ◌≡◌, ◌≤◌, refl, sym, ◌∙◌, ap, arith, List, [], ◌∷◌, ◌++◌, append_assoc, length, take, replicate}
use mathlib.Core.List.{append-nil}
use Rattle.decimal.specs.Decimal.{decimal}
use Rattle.source_parts.specs.declared.Text.{Text}
use Rattle.source_parts.specs.Parts.{Holds, Adds}
use Rattle.source_parts.proofs.PartLaws.{holds_as}
use Rattle.base.specs.Areas.{Wrote}
use Rattle.base.specs.Lists.{written}
use Rattle.base.proofs.Areas.{written_none, written_front}

-- nothing
pub adds_none : (t : Text) → Adds [] t t
adds_none t = record { held = λ text area h. holds_as (sym (append-nil text)) h; same_area = refl }

-- one text after the other
pub adds_both : {x y whole : List ℕ} {a b c : Text} → whole ≡ x ++ y → Adds x a b → Adds y b c → Adds whole a c
adds_both {x} {y} e p q = record {
  held = λ text area h. rw e (holds_as (append_assoc text x y) (q.held (text ++ x) area (p.held text area h)));
  same_area = q.same_area ∙ p.same_area;
}

-- the same by an equation
pub adds_as : {x y : List ℕ} {a b : Text} → y ≡ x → Adds x a b → Adds y a b
adds_as e p = rw e p

-- What a loop that adds the pieces of `whole` has added so far: all of it, once `rest` is added.
pub record Along (whole rest : List ℕ) (before after : Text) : Type 0 where
  pub ends : (last : Text) → Adds rest after last → Adds whole before last

pub along_start : (whole rest : List ℕ) (t : Text) → whole ≡ rest → Along whole rest t t
along_start whole rest t e = record { ends = λ last p. adds_as e p }

module _ {whole rest : List ℕ} {before after : Text} (a : Along whole rest before after) where
  pub along_next : (piece more : List ℕ) → rest ≡ piece ++ more → {next : Text} → Adds piece after next → Along whole more before next
  along_next piece more e p = record { ends = λ last q. a.ends last (adds_both e p q) }

  pub along_end : rest ≡ [] → Adds whole before after
  along_end e = a.ends after (adds_as e (adds_none after))

-- a text that began at the front of an area, and the area at last
module _ (bytes area : List ℕ) (a : Text) (z : a.len ≡ 0) (s : a.area.now ≡ area) where
  starts : Holds [] area a
  starts = record { count = z; size = rw s refl; area = λ h. s ∙ written_none area }

  pub front_wrote : {last : List ℕ} {b : Text} → length bytes ≤ length area → length area ≤ 18446744073709551615
      → (a.area.ghost_name ≡ b.area.ghost_name → last ≡ b.area.now) → Adds bytes a b → Wrote bytes area last b.len
  front_wrote h l e p =
      let w = p.held [] area starts in
      let c = w.count in
      record { count = omega arith; area = e (sym p.same_area) ∙ w.area h }

-- a number, whose digits stand at the front of a local area, and the byte after it
pub number_adds : (n end : ℕ) {digits : List ℕ} {k : ℕ} {a b c : Text} → digits ≡ written (decimal n) (replicate 20 0) → k ≡ length (decimal n)
    → Adds (take k digits) a b → Adds (end ∷ []) b c → Adds (decimal n ++ (end ∷ [])) a c
number_adds n end e l p q = adds_both refl (adds_as (sym (ap (take _) e ∙ written_front (decimal n) (replicate 20 0) _ l)) p) q

pub digits_length : (n : ℕ) {digits : List ℕ} {k : ℕ} → digits ≡ written (decimal n) (replicate 20 0) → k ≡ length (decimal n) → k ≡ length (take k digits)
digits_length n e l = l ∙ sym (ap length (ap (take _) e ∙ written_front (decimal n) (replicate 20 0) _ l))
