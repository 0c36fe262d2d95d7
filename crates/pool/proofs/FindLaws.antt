-- The first field with a tag:
-- what a search for it finds is what the definition says.
use Prim.Native.Nat.{ℕ, suc, ◌+◌, ◌≤◌}
use native.Mathlib.Omega.{arith}
use mathlib.Core.Path.{◌≡◌, refl, sym, subst, ap, ◌∙◌}
use mathlib.Core.List.{List, [], ◌∷◌}
use mathlib.Core.Bool.{Bool, true, false, cond, true≢false}
use mathlib.Core.Option.{none, some}
use lib.ListN.{take}
use lib.Dec.{eqb}
use borrow.Author.Tests.{le-leb, ne_eqb}
use denote.Ref.{Bor}
use denote.Param.Members.{Mut}
use Rattle.std.specs.Prelude.{Option, None, Some}
use Rattle.std.specs.Bool.{⊤}
use Rattle.std.specs.Option.{MatchOption}
use Rattle.std.specs.Fn.{CalledAt}
use Rattle.std.specs.Iterator.{Yields, YieldsThen, YieldsFirstBy}
use Rattle.std.specs.List.{FoldsTo, find, prefix_len}
use Rattle.base.specs.Lists.{within}
use Rattle.base.specs.Pick.{pick}
use Rattle.pool.specs.Fields.{Field}
use Rattle.pool.specs.Entries.{field_with, in_name, name_at, name_after, names_in}
use Rattle.pool.specs.declared.field.Field.{Field as FieldPart}
use Rattle.pool.specs.declared.fields.Fields.{Fields}
use Rattle.pool.specs.Views.{field_lent, fields_left}

module _ (t : ℕ) where
  abbrev pub has_tag : Field → Bool
  has_tag f = eqb f.tag t

  pub field_none : (fs : List Field) → None ≡ find has_tag fs → none ≡ field_with t fs
  unfolding field_with
  field_none [] e = refl
  field_none (x ∷ xs) e = go (has_tag x) e (field_none xs)
    where
      go : (b : Bool) → ◌≡◌ {A = Option Field} None (cond b (Some x) (find has_tag xs)) → (None ≡ find has_tag xs → none ≡ field_with t xs)
          → none ≡ pick b (some x.bytes) (field_with t xs)
      go true e rec = cc
      go false e rec = rec e

  pub field_some : (fs : List Field) (f : Field) → Some f ≡ find has_tag fs → some f.bytes ≡ field_with t fs
  unfolding field_with
  field_some [] f e = cc
  field_some (x ∷ xs) f e = go (has_tag x) e (field_some xs f)
    where
      go : (b : Bool) → Some f ≡ cond b (Some x) (find has_tag xs) → (Some f ≡ find has_tag xs → some f.bytes ≡ field_with t xs)
          → some f.bytes ≡ pick b (some x.bytes) (field_with t xs)
      go true e rec = let p : f ≡ x = cc in rw p refl
      go false e rec = rec e

-- the parts of a name are the fields that stand first
abbrev pub is_part : Field → Bool
is_part f = within 3 5 f.tag

pub part_found : (t : ℕ) (fs : List Field) → 3 ≤ t → t ≤ 5 → field_with t (take (prefix_len is_part fs) fs) ≡ in_name t fs
unfolding field_with in_name
part_found t [] h g = refl
part_found t (x ∷ xs) h g = go (is_part x) refl (part_found t xs h g)
  where
    other : is_part x ≡ false → eqb x.tag t ≡ false
    other q = ne_eqb x.tag t (λ e. true≢false (sym (rw (e, le-leb 3 t h, le-leb t 5 g) refl) ∙ q))

    go : (b : Bool) → is_part x ≡ b → field_with t (take (prefix_len is_part xs) xs) ≡ in_name t xs
        → field_with t (take (cond b (1 + prefix_len is_part xs) 0) (x ∷ xs)) ≡ pick (eqb x.tag t) (some x.bytes) (pick b (in_name t xs) none)
    go true q rec = let z : 1 + prefix_len is_part xs ≡ suc (prefix_len is_part xs) = omega arith in rw z (rw rec refl)
    go false q rec = rw (other q) refl

-- the names after fields that begin none
module _ {F : Type 0} {g : Mut F (Bor FieldPart × Unit {0}) Bool} (f : F) (k : (x : FieldPart) (b : Bool) (q : F) → CalledAt g f x b q → (q ≡ f) × (b ≡ eqb x.tag 2)) where
  abbrev Steps : Fields → Option FieldPart → Fields → Type 0
  Steps = YieldsFirstBy field_lent fields_left

  passed : (xs : List FieldPart) (s t : Fields) (j : F) → Yields Steps s xs t → FoldsTo (λ p x q. CalledAt g p x false q) f xs j
      → (names_in (fields_left s) ≡ names_in (fields_left t)) × (j ≡ f)
  unfolding names_in name_at
  passed [] s t j y d = (ap (λ z. names_in (fields_left z)) y, sym d)
  passed (x ∷ xs) s t j (u, a, y) (q, c, d) =
      let n = k x false q c in
      let d' : FoldsTo (λ p x q. CalledAt g p x false q) f xs j = subst (λ p. FoldsTo (λ p x q. CalledAt g p x false q) p xs j) n.0 d in
      let r = passed xs u t j y d' in
      (rw (a, sym n.1) r.0, r.1)

  pub name_found : (s u : Fields) (r : Option FieldPart)
      → (xs : List FieldPart) × (j : F) × YieldsThen Steps s xs r u × FoldsTo (λ p x q. CalledAt g p x false q) f xs j × MatchOption r ⊤ (λ x. (h : F) × CalledAt g j x true h)
      → MatchOption r ((names_in (fields_left s) ≡ []) × (names_in (fields_left u) ≡ [])) (λ _. names_in (fields_left s) ≡ name_after (fields_left u) ∷ names_in (fields_left u))
  unfolding names_in name_at
  name_found s u None (xs, j, (t, y, a), d, e) = let r = passed xs s t j y d in (r.0 ∙ rw a.0 refl, rw a.1 refl)
  name_found s u (Some x) (xs, j, (t, y, a), d, (h, c)) =
      let r = passed xs s t j y d in
      let n = k x true h (subst (λ p. CalledAt g p x true h) r.1 c) in
      r.0 ∙ rw (a, sym n.1) refl
