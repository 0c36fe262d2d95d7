-- Cases: attributes that are given,
-- empty, or not given.
use Rattle.std.specs.Prelude.{ℕ, ◌≡◌, refl, List, []}
use Rattle.std.proofs.Math.Option.{Option, none, some}
use Rattle.base.specs.Ascii.{ascii}
use Rattle.base.specs.First.{first}
use Rattle.base.specs.Last.{last_end}
use Rattle.base.specs.Lists.{part, same}
use Rattle.white.specs.White.{space_width, is_white}
use Rattle.text.specs.Trim.{trim_start}
use Rattle.attributes.specs.Attributes.{attr_value, value_in, words_of, words_in, word_end, equals_at, bare, stripped, author_word, year_word}

author : List ℕ → Option (List ℕ)
author attributes = attr_value attributes author_word

year : List ℕ → Option (List ℕ)
year attributes = attr_value attributes year_word

-- "`author="Le Guin"` gives `Le`, and a `year` after it is lost."
le_guin : author (ascii "author=\"Le Guin\" year=1969") ≡ some (ascii "Le")
unfolding author attr_value value_in words_of words_in word_end equals_at bare stripped part same first last_end ascii
    space_width is_white trim_start
le_guin = refl

le_guin_year : year (ascii "author=\"Le Guin\" year=1969") ≡ none
unfolding year attr_value value_in words_of words_in word_end equals_at bare stripped part same first last_end ascii
    space_width is_white trim_start
le_guin_year = refl

-- "A word without `=` before the wanted one ends the search." "The first `year` wins"
bare_word : author (ascii "author=A x year=1") ≡ some (ascii "A")
unfolding author attr_value value_in words_of words_in word_end equals_at bare stripped part same first last_end ascii
    space_width is_white trim_start
bare_word = refl

first_year : year (ascii " =x  year=1 year=2") ≡ some (ascii "1")
unfolding year attr_value value_in words_of words_in word_end equals_at bare stripped part same first last_end ascii
    space_width is_white trim_start
first_year = refl

-- "Double quotes, then single ones, are stripped from both ends of the value."
quotes : author (ascii "author=\"\"'a=b''\"") ≡ some (ascii "a=b")
unfolding author attr_value value_in words_of words_in word_end equals_at bare stripped part same first last_end ascii
    space_width is_white trim_start
quotes = refl

-- given and empty; not given
empty_one : author (ascii "author=") ≡ some []
unfolding author attr_value value_in words_of words_in word_end equals_at bare stripped part same first last_end ascii
    space_width is_white trim_start
empty_one = refl

no_attributes : author [] ≡ none
unfolding author attr_value value_in words_of words_in
no_attributes = refl
