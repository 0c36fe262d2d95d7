-- Theorems: which tags an entry's fields have, as a grammar, that an entry is good exactly where they spell it,
-- and what its fields are read to. Proved in proofs/.
use Rattle.std.specs.Prelude.{ℕ, ◌≡◌, List, [], ◌∷◌, ◌++◌, map, Bool, true}
use Rattle.std.proofs.Math.Option.{Option, none, some}
use Rattle.base.specs.Pick.{pick}
use Rattle.base.specs.Sorted.{Each}
use Rattle.pool.specs.Fields.{Field, fields_of, fill, content_good, entry_good}
use Rattle.pool.specs.Entries.{Name, year_in, entry_of}

-- a tag that may be left out
abbrev pub optional : Bool → ℕ → List ℕ
optional there tag = pick there (tag ∷ []) []

-- which parts a name has
pub record NameShape : Type 0 where
  pub family : Bool
  pub given : Bool
  pub literal : Bool

-- "each 2 (length 0) then optional 3 family, 4 given, 5 literal"
abbrev pub name_tags : NameShape → List ℕ
name_tags n = 2 ∷ (optional n.family 3 ++ (optional n.given 4 ++ optional n.literal 5))

-- "any names"
unfoldable pub names_tags : List NameShape → List ℕ
names_tags [] = []
names_tags (n ∷ ns) = name_tags n ++ names_tags ns

-- "then optional 6 year (8 bytes, signed), 7 date literal, 8 title"
abbrev pub end_tags : Bool → Bool → Bool → List ℕ
end_tags year date title = optional year 6 ++ (optional date 7 ++ optional title 8)

-- which fields an entry has
pub record EntryShape : Type 0 where
  pub names : List NameShape
  pub year : Bool
  pub date : Bool
  pub title : Bool

-- "Per entry: 1 id; any names ..; then optional ..": 1 (2 3? 4? 5?)* 6? 7? 8?
abbrev pub entry_tags : EntryShape → List ℕ
entry_tags x = 1 ∷ (names_tags x.names ++ end_tags x.year x.date x.title)

-- the tags of some fields
abbrev pub tags_of : List Field → List ℕ
tags_of fs = map (λ (f : Field). f.tag) fs

-- every field has a good content
abbrev pub ContentsGood : List Field → Type 0
ContentsGood fs = Each (λ (f : Field). content_good f.tag f.bytes ≡ true) fs

-- a good entry: its fields fill it, each has a good content, and their tags are those of an entry
abbrev pub GoodIsSpelled : Type 0
GoodIsSpelled =
    (s : List ℕ) (at e : ℕ) → entry_good s at e ≡ true
    → (fill s at e ≡ true) × ContentsGood (fields_of s at e) × ((x : EntryShape) × (tags_of (fields_of s at e) ≡ entry_tags x))

-- every entry whose tags spell the grammar, its contents being good, is good
abbrev pub SpelledIsGood : Type 0
SpelledIsGood =
    (s : List ℕ) (at e : ℕ) (x : EntryShape) → fill s at e ≡ true → ContentsGood (fields_of s at e) → tags_of (fields_of s at e) ≡ entry_tags x
    → entry_good s at e ≡ true

-- a field that may be left out
abbrev pub optional_field : ℕ → Option (List ℕ) → List Field
optional_field tag none = []
optional_field tag (some bytes) = record { tag = tag; bytes = bytes } ∷ []

-- the fields of a name: "3 family, 4 given, 5 literal"
abbrev pub name_fields : Name → List Field
name_fields n =
    record { tag = 2; bytes = [] } ∷ (optional_field 3 n.family ++ (optional_field 4 n.given ++ optional_field 5 n.literal))

-- the fields of some names
unfoldable pub names_fields : List Name → List Field
names_fields [] = []
names_fields (n ∷ ns) = name_fields n ++ names_fields ns

-- "6 year (8 bytes, signed), 7 date literal, 8 title"
abbrev pub end_fields : Option (List ℕ) → Option (List ℕ) → Option (List ℕ) → List Field
end_fields year date title = optional_field 6 year ++ (optional_field 7 date ++ optional_field 8 title)

-- the fields of an entry are read to what they were made of, the year by its bytes
abbrev pub FieldsRead : Type 0
FieldsRead =
    (id : List ℕ) (names : List Name) (year date title : Option (List ℕ))
    → entry_of (record { tag = 1; bytes = id } ∷ (names_fields names ++ end_fields year date title))
    ≡ record { id = id; names = names; year = year_in year; date = date; title = title }
