-- THEOREMS `ItemPlaces` and `MarksBelow`: each place of an item record is computed.
-- Assumes nothing.
use mathlib.Core.Path.{refl}
use Rattle.records.specs.ItemRecords.{marks_of, item_record}
use Rattle.records.specs.Facts.{ItemPlaces, MarksBelow}

pub item_places : ItemPlaces
unfolding item_record
item_places it number use_as label = record {
  width = refl;
  prefix = refl;
  prefix_length = refl;
  key = refl;
  key_length = refl;
  locator = refl;
  locator_length = refl;
  value = refl;
  suffix = refl;
  code = refl;
  marks = refl;
  the_number = refl;
  the_use = refl;
  the_label = refl;
  label_length = refl;
}

pub marks_below : MarksBelow
unfolding item_record marks_of
marks_below it number use_as label = (λ e. rw e refl, λ e. rw e refl)
