-- Follows the code; nothing to believe: what `list` makes ready for the call:
-- areas of zeros, and room for the listing.
use Rattle.std.specs.Prelude.{ℕ, ◌*◌, ◌≤◌, ◌≡◌, List, length, replicate}
use Rattle.listing_lines.specs.Listing.{listing_of}
use Rattle.records.specs.Widths.{item_width, group_width}

-- the areas of the definition, zero, and an area with room for the listing
pub record Ready (text index items groups references labels out : List ℕ) : Type 0 where
  pub short : length text ≤ 4096
  pub index_area : index ≡ replicate (length text) 0
  pub item_area : items ≡ replicate (item_width * length text) 0
  pub group_area : groups ≡ replicate (group_width * length text) 0
  pub reference_area : references ≡ replicate (length text) 0
  pub label_area : labels ≡ replicate (5 * length text) 0
  pub room : length (listing_of text) ≤ length out
