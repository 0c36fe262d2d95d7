-- The answers of `utf8::theorems`:
-- the theorems of proofs/Encodings.
use Rattle.utf8.proofs.Encodings.{encoded_is_utf8, utf8_is_encoded, decoded_is_back}
use Rattle.utf8.proofs.theorems.Goals as goal

pub returns : goal.returns
returns c = record { encoded_is_utf8 = encoded_is_utf8; utf8_is_encoded = utf8_is_encoded; decoded_is_back = decoded_is_back }
