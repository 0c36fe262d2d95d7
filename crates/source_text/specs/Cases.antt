-- Cases: the layout and the text
-- of pools of one entry.
use Rattle.std.specs.Prelude.{◌≡◌, refl, List, [], ◌∷◌, ◌++◌, map, true, ℕ}
use Rattle.std.proofs.Math.Option.{some}
use Rattle.base.specs.Ascii.{ascii}
use Rattle.base.specs.Fold.{fold}
use Rattle.base.specs.Lists.{part, written}
use Rattle.utf8.specs.Utf8.{utf8, utf8_in, char_width}
use Rattle.pool.specs.Numbers.{le_at, signed_of}
use Rattle.pool.specs.Fields.{field_end, field_at, fields_in, fill_in, fields_of, fill, follows, content_good, fields_good, good_from}
use Rattle.pool.specs.Entries.{field_with, in_name, name_after, name_at, names_in, year_in, entry_of}
use Rattle.pool.specs.Layout.{entries_good, laid_out, well_formed, entry_at}
use Rattle.decimal.specs.Decimal.{count_in, last_digits, decimal}
use Rattle.source.specs.Decimal.{signed_decimal}
use Rattle.source_parts.specs.Joined.{beside}
use Rattle.source_text.specs.Text.{add_name, names_of, head_of, ended, body_of, source_text_of}
use Rattle.source_parts.specs.Names.{given_part, family_part, name_by, name_of}
use Rattle.source.specs.Entry.{year_by, year_of}
use Rattle.source_parts.specs.Parens.{in_parens}
use Rattle.source_text.specs.Call.{source_refused, source_written, source_text_call}

-- one entry: id `a`; names `Ant`, `A.` and an empty literal; year -44; no date; title `T`
abbrev ants : List ℕ
ants =
    1 ∷ 0 ∷ 6 ∷ 0 ∷ 39 ∷ 0
    ∷ 1 ∷ 1 ∷ 0 ∷ 97
    ∷ 2 ∷ 0 ∷ 0 ∷ 3 ∷ 3 ∷ 0 ∷ 65 ∷ 110 ∷ 116 ∷ 4 ∷ 2 ∷ 0 ∷ 65 ∷ 46
    ∷ 2 ∷ 0 ∷ 0 ∷ 5 ∷ 0 ∷ 0
    ∷ 6 ∷ 8 ∷ 0 ∷ 212 ∷ 255 ∷ 255 ∷ 255 ∷ 255 ∷ 255 ∷ 255 ∷ 255
    ∷ 8 ∷ 1 ∷ 0 ∷ 84 ∷ []

ants_good : well_formed ants ≡ true
unfolding well_formed laid_out entries_good good_from fill fill_in fields_of fields_in fields_good field_at field_end follows content_good utf8 utf8_in char_width part le_at
ants_good = refl

-- `Ant, A. (-44). T.`
ants_text : source_text_call ants 0 (7 ∷ 7 ∷ 7 ∷ 7 ∷ 7 ∷ 7 ∷ 7 ∷ 7 ∷ 7 ∷ 7 ∷ 7 ∷ 7 ∷ 7 ∷ 7 ∷ 7 ∷ 7 ∷ 7 ∷ 7 ∷ [])
    ≡ record { number = 0; bytes = 17; area = 65 ∷ 110 ∷ 116 ∷ 44 ∷ 32 ∷ 65 ∷ 46 ∷ 32 ∷ 40 ∷ 45 ∷ 52 ∷ 52 ∷ 41 ∷ 46 ∷ 32 ∷ 84 ∷ 46 ∷ 7 ∷ [] }
unfolding well_formed laid_out entries_good good_from fill fill_in fields_of fields_in fields_good field_at field_end follows content_good utf8 utf8_in char_width part le_at source_text_call source_written entry_at entry_of field_with names_in name_at name_after in_name year_in signed_of source_text_of body_of head_of names_of add_name name_of name_by family_part given_part beside year_of year_by in_parens ended signed_decimal decimal last_digits count_in fold written
ants_text = refl

-- 10, 8, 7, and 8 with no pool
ants_short : source_text_call ants 0 (7 ∷ []) ≡ source_refused 10 (7 ∷ [])
unfolding well_formed laid_out entries_good good_from fill fill_in fields_of fields_in fields_good field_at field_end follows content_good utf8 utf8_in char_width part le_at source_text_call source_written entry_at entry_of field_with names_in name_at name_after in_name year_in signed_of source_text_of body_of head_of names_of add_name name_of name_by family_part given_part beside year_of year_by in_parens ended signed_decimal decimal last_digits count_in fold written
ants_short = refl

ants_one : source_text_call ants 1 [] ≡ source_refused 8 []
unfolding well_formed laid_out entries_good good_from fill fill_in fields_of fields_in fields_good field_at field_end follows content_good utf8 utf8_in char_width part le_at source_text_call source_written
ants_one = refl

zero_byte : source_text_call (0 ∷ []) 0 [] ≡ source_refused 7 []
unfolding well_formed laid_out source_text_call le_at entries_good
zero_byte = refl

no_pool : source_text_call [] 0 [] ≡ source_refused 8 []
unfolding well_formed laid_out source_text_call le_at entries_good
no_pool = refl

-- "Family with an empty given name gives `Ant, `": one entry, id `a`, family `Ant`, given empty; the text adds its stop
abbrev empty_given : List ℕ
empty_given = 1 ∷ 0 ∷ 6 ∷ 0 ∷ 16 ∷ 0 ∷ 1 ∷ 1 ∷ 0 ∷ 97 ∷ 2 ∷ 0 ∷ 0 ∷ 3 ∷ 3 ∷ 0 ∷ 65 ∷ 110 ∷ 116 ∷ 4 ∷ 0 ∷ 0 ∷ []

ant_name : map name_of (entry_at empty_given 0).names ≡ ascii "Ant, " ∷ []
unfolding le_at entry_at entry_of fields_of fields_in field_at field_end part field_with names_in name_at name_after in_name year_in name_of name_by family_part given_part ascii
ant_name = refl

ant_text : source_text_call empty_given 0 (7 ∷ 7 ∷ 7 ∷ 7 ∷ 7 ∷ 7 ∷ 7 ∷ []) ≡ record { number = 0; bytes = 6; area = ascii "Ant, ." ++ (7 ∷ []) }
unfolding well_formed laid_out entries_good good_from fill fill_in fields_of fields_in fields_good field_at field_end follows content_good utf8 utf8_in char_width part le_at source_text_call source_written entry_at entry_of field_with names_in name_at name_after in_name year_in signed_of source_text_of body_of head_of names_of add_name name_of name_by family_part given_part beside year_of year_by in_parens ended signed_decimal decimal last_digits count_in fold written ascii
ant_text = refl

-- "Year -44 is `-44`": its eight bytes, and the year of the entry above
year_as : signed_decimal (signed_of 8 (le_at 8 (212 ∷ 255 ∷ 255 ∷ 255 ∷ 255 ∷ 255 ∷ 255 ∷ 255 ∷ []) 0)) ≡ ascii "-44"
unfolding le_at signed_of signed_decimal decimal last_digits count_in ascii
year_as = refl

ants_year : year_of (entry_at ants 0) ≡ some (ascii "-44")
unfolding le_at entry_at entry_of fields_of fields_in field_at field_end part field_with names_in name_at name_after in_name year_in year_of year_by signed_of signed_decimal decimal last_digits count_in ascii
ants_year = refl
