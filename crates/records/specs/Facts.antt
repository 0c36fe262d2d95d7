-- Theorems: what stands where in an item record,
-- and its mark.
use Rattle.std.specs.Prelude.{ℕ, ◌≡◌, true, false, length, get_or}
use Rattle.base.specs.declared.Span.{Span}
use Rattle.locator.specs.Answers.{code_of, value_of, suffix_of}
use Rattle.item.specs.declared.Item.{Item}
use Rattle.records.specs.Widths.{item_width, item_prefix, item_prefix_length, item_key, item_key_length, item_locator, item_locator_length, item_value, item_suffix, item_code, item_marks, item_number, item_use, item_label, item_label_length}
use Rattle.records.specs.ItemRecords.{marks_of, item_record}

-- the record of an item has the layout's width, and at each named place what the name says
pub record PlacesOf (it : Item) (number use_as : ℕ) (label : Span) : Type 0 where
  pub width : length (item_record it number use_as label) ≡ item_width
  pub prefix : get_or (item_record it number use_as label) item_prefix 0 ≡ it.prefix.at
  pub prefix_length : get_or (item_record it number use_as label) item_prefix_length 0 ≡ it.prefix.len
  pub key : get_or (item_record it number use_as label) item_key 0 ≡ it.key.at
  pub key_length : get_or (item_record it number use_as label) item_key_length 0 ≡ it.key.len
  pub locator : get_or (item_record it number use_as label) item_locator 0 ≡ it.locator.at
  pub locator_length : get_or (item_record it number use_as label) item_locator_length 0 ≡ it.locator.len
  pub value : get_or (item_record it number use_as label) item_value 0 ≡ (value_of it.parts).at
  pub suffix : get_or (item_record it number use_as label) item_suffix 0 ≡ (suffix_of it.parts).at
  pub code : get_or (item_record it number use_as label) item_code 0 ≡ code_of it.parts
  pub marks : get_or (item_record it number use_as label) item_marks 0 ≡ marks_of it
  pub the_number : get_or (item_record it number use_as label) item_number 0 ≡ number
  pub the_use : get_or (item_record it number use_as label) item_use 0 ≡ use_as
  pub the_label : get_or (item_record it number use_as label) item_label 0 ≡ label.at
  pub label_length : get_or (item_record it number use_as label) item_label_length 0 ≡ label.len

-- THEOREM: so it is for every item, number, use and label
abbrev pub ItemPlaces : Type 0
ItemPlaces = (it : Item) (number use_as : ℕ) (label : Span) → PlacesOf it number use_as label

-- THEOREM, document 02, W10: "mark 2 is no longer set". The mark in a record is 1 where the item is suppressed, and 0 where it is not.
abbrev pub MarksBelow : Type 0
MarksBelow =
    (it : Item) (number use_as : ℕ) (label : Span)
    → (it.suppressed ≡ true → get_or (item_record it number use_as label) item_marks 0 ≡ 1)
    × (it.suppressed ≡ false → get_or (item_record it number use_as label) item_marks 0 ≡ 0)
