-- The answers of `white::theorems`:
-- the theorems of proofs/Points.
use Rattle.white.proofs.Points.{white_spaces_25, white_has_width, width_is_white, bytes_are_white, white_is_byte}
use Rattle.white.proofs.theorems.Goals as goal

pub returns : goal.returns
returns c = record {
  white_spaces_25 = white_spaces_25;
  white_has_width = white_has_width;
  width_is_white = width_is_white;
  bytes_are_white = bytes_are_white;
  white_is_byte = white_is_byte;
}
