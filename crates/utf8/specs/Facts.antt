-- Theorems: what UTF-8 is, the encodings of lists of code points,
-- proved in proofs/.
use Rattle.std.specs.Prelude.{ℕ, ◌≡◌, List, true}
use Rattle.base.specs.Sorted.{Each}
use Rattle.utf8.specs.Utf8.{utf8}
use Rattle.utf8.specs.Encoding.{is_scalar, encoded, decoded}

-- nothing but code points that UTF-8 encodes
abbrev pub Scalars : List ℕ → Type 0
Scalars cs = Each (λ c. is_scalar c ≡ true) cs

-- "Also UTF-8 checking", "2 text not UTF-8", "Strings are UTF-8": every list of code points is encoded as bytes that are accepted
abbrev pub EncodedIsUtf8 : Type 0
EncodedIsUtf8 = (cs : List ℕ) → Scalars cs → utf8 (encoded cs) ≡ true

-- bytes that are accepted are the encoding of a list of code points
abbrev pub Utf8IsEncoded : Type 0
Utf8IsEncoded = (s : List ℕ) → utf8 s ≡ true → Scalars (decoded s) × (encoded (decoded s) ≡ s)

-- each list of code points is read back from its encoding, so that an accepted text encodes one list only
abbrev pub DecodedIsBack : Type 0
DecodedIsBack = (cs : List ℕ) → Scalars cs → decoded (encoded cs) ≡ cs
