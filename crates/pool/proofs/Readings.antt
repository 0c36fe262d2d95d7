-- THEOREM `FieldsRead`: the fields of an entry are read
-- to what they were made of.
use Prim.Native.Nat.{ℕ, ◌<◌}
use native.Mathlib.Omega.{arith}
use mathlib.Core.Path.{◌≡◌, refl, ◌∙◌}
use mathlib.Core.List.{List, [], ◌∷◌, ◌++◌}
use mathlib.Core.Option.{Option, none, some}
use borrow.Author.Tests.{ne_eqb}
use Rattle.pool.specs.Fields.{Field}
use Rattle.pool.specs.Entries.{Name, field_with, in_name, name_after, name_at, names_in, entry_of}
use Rattle.pool.specs.Facts.{name_fields, names_fields, end_fields, FieldsRead}

-- none of a name's fields has a tag above 5
past_names : (t : ℕ) (names : List Name) (end : List Field) → 5 < t → field_with t (names_fields names ++ end) ≡ field_with t end
unfolding field_with names_fields
past_names t [] end h = refl
past_names t (n ∷ ns) end h = go n.family n.given n.literal ∙ past_names t ns end h
  where
    go : (f g l : Option (List ℕ))
        → field_with t (name_fields (record { family = f; given = g; literal = l }) ++ names_fields ns ++ end) ≡ field_with t (names_fields ns ++ end)
    go (some x) (some y) (some z) = rw (ne_eqb 2 t (λ e. omega arith), ne_eqb 3 t (λ e. omega arith), ne_eqb 4 t (λ e. omega arith), ne_eqb 5 t (λ e. omega arith)) refl
    go (some x) (some y) none = rw (ne_eqb 2 t (λ e. omega arith), ne_eqb 3 t (λ e. omega arith), ne_eqb 4 t (λ e. omega arith)) refl
    go (some x) none (some z) = rw (ne_eqb 2 t (λ e. omega arith), ne_eqb 3 t (λ e. omega arith), ne_eqb 5 t (λ e. omega arith)) refl
    go (some x) none none = rw (ne_eqb 2 t (λ e. omega arith), ne_eqb 3 t (λ e. omega arith)) refl
    go none (some y) (some z) = rw (ne_eqb 2 t (λ e. omega arith), ne_eqb 4 t (λ e. omega arith), ne_eqb 5 t (λ e. omega arith)) refl
    go none (some y) none = rw (ne_eqb 2 t (λ e. omega arith), ne_eqb 4 t (λ e. omega arith)) refl
    go none none (some z) = rw (ne_eqb 2 t (λ e. omega arith), ne_eqb 5 t (λ e. omega arith)) refl
    go none none none = rw (ne_eqb 2 t (λ e. omega arith)) refl

module _ (year date title : Option (List ℕ)) where
  abbrev Read : List Field → Type 0
  Read end = (field_with 6 end ≡ year) × (field_with 7 end ≡ date) × (field_with 8 end ≡ title) × (names_in end ≡ [])

ends_read : (year date title : Option (List ℕ)) → Read year date title (end_fields year date title)
unfolding field_with names_in name_at
ends_read (some y) (some d) (some t) = (refl, refl, refl, refl)
ends_read (some y) (some d) none = (refl, refl, refl, refl)
ends_read (some y) none (some t) = (refl, refl, refl, refl)
ends_read (some y) none none = (refl, refl, refl, refl)
ends_read none (some d) (some t) = (refl, refl, refl, refl)
ends_read none (some d) none = (refl, refl, refl, refl)
ends_read none none (some t) = (refl, refl, refl, refl)
ends_read none none none = (refl, refl, refl, refl)

-- after a name none of its fields stands
abbrev NoneLeft : List Field → Type 0
NoneLeft end = (in_name 3 end ≡ none) × (in_name 4 end ≡ none) × (in_name 5 end ≡ none)

ends_left : (year date title : Option (List ℕ)) → NoneLeft (end_fields year date title)
unfolding in_name
ends_left (some y) (some d) (some t) = (refl, refl, refl)
ends_left (some y) (some d) none = (refl, refl, refl)
ends_left (some y) none (some t) = (refl, refl, refl)
ends_left (some y) none none = (refl, refl, refl)
ends_left none (some d) (some t) = (refl, refl, refl)
ends_left none (some d) none = (refl, refl, refl)
ends_left none none (some t) = (refl, refl, refl)
ends_left none none none = (refl, refl, refl)

names_left : (ns : List Name) (end : List Field) → NoneLeft end → NoneLeft (names_fields ns ++ end)
unfolding in_name names_fields
names_left [] end h = h
names_left (n ∷ ns) end h = (refl, refl, refl)

names_read : (ns : List Name) (end : List Field) → NoneLeft end → names_in end ≡ [] → names_in (names_fields ns ++ end) ≡ ns
unfolding names_in name_at name_after in_name names_fields
names_read [] end h e = e
names_read (n ∷ ns) end h e = go n.family n.given n.literal (names_left ns end h) (names_read ns end h e)
  where
    go : (f g l : Option (List ℕ)) → NoneLeft (names_fields ns ++ end) → names_in (names_fields ns ++ end) ≡ ns
        → names_in (name_fields (record { family = f; given = g; literal = l }) ++ names_fields ns ++ end) ≡ record { family = f; given = g; literal = l } ∷ ns
    go (some x) (some y) (some z) q r = rw r refl
    go (some x) (some y) none q r = rw (q.2, r) refl
    go (some x) none (some z) q r = rw (q.1, r) refl
    go (some x) none none q r = rw (q.1, q.2, r) refl
    go none (some y) (some z) q r = rw (q.0, r) refl
    go none (some y) none q r = rw (q.0, q.2, r) refl
    go none none (some z) q r = rw (q.0, q.1, r) refl
    go none none none q r = rw (q.0, q.1, q.2, r) refl

pub fields_read : FieldsRead
unfolding entry_of field_with names_in name_at
fields_read id names year date title =
    let end = end_fields year date title in
    let r = ends_read year date title in
    rw (
      past_names 6 names end (omega arith),
      past_names 7 names end (omega arith),
      past_names 8 names end (omega arith),
      names_read names end (ends_left year date title) r.3,
      r.0,
      r.1,
      r.2,
    ) refl
