-- Cases: texts that are UTF-8
-- and texts that are not.
use Rattle.std.specs.Prelude.{◌≡◌, refl, [], ◌∷◌, true, false}
use Rattle.utf8.specs.Utf8.{utf8, utf8_in, char_width}

-- byte FF is not UTF-8; the euro sign is; a surrogate, a cut character and an overlong slash are not
utf8_ff : utf8 (0xFF ∷ []) ≡ false
unfolding utf8 utf8_in char_width
utf8_ff = refl

utf8_euro : utf8 (97 ∷ 0xE2 ∷ 0x82 ∷ 0xAC ∷ []) ≡ true
unfolding utf8 utf8_in char_width
utf8_euro = refl

utf8_surrogate : utf8 (0xED ∷ 0xA0 ∷ 0x80 ∷ []) ≡ false
unfolding utf8 utf8_in char_width
utf8_surrogate = refl

utf8_cut : utf8 (97 ∷ 0xE2 ∷ 0x82 ∷ []) ≡ false
unfolding utf8 utf8_in char_width
utf8_cut = refl

utf8_overlong : utf8 (0xC0 ∷ 0xAF ∷ []) ≡ false
unfolding utf8 utf8_in char_width
utf8_overlong = refl
