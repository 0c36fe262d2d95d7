-- Cases: labels by number, by author and year, and of a suppressed item,
-- with white space at their ends, and where nothing is left.

use Rattle.std.specs.Prelude.{◌≡◌, refl, [], true, false}
use Rattle.std.proofs.Math.Option.{none, some}
use Rattle.base.specs.Ascii.{ascii}
use Rattle.base.specs.First.{first}
use Rattle.base.specs.Last.{last_end}
use Rattle.base.specs.Lists.{part}
use Rattle.white.specs.White.{space_width, is_white}
use Rattle.text.specs.Trim.{trim_start, trim_end, trim}
use Rattle.decimal.specs.Decimal.{count_in, last_digits, decimal}
use Rattle.label.specs.Labels.{or_number, author_year, year_only, label_by}

-- "Mode 0 labels by number; mode 1 by author, space, year, trimmed, or the number if nothing is left."
by_number : label_by 0 true 12 (ascii "Ant") (some (ascii "1999")) ≡ ascii "12"
unfolding label_by decimal last_digits count_in ascii
by_number = refl

by_author : label_by 1 false 12 (ascii " Ant ") (some (ascii "1999 ")) ≡ ascii "Ant  1999"
unfolding label_by author_year or_number trim trim_start trim_end is_white space_width first last_end part ascii
by_author = refl

no_author : label_by 1 false 12 [] (some (ascii "1999")) ≡ ascii "1999"
unfolding label_by author_year or_number trim trim_start trim_end is_white space_width first last_end part ascii
no_author = refl

nothing_left : label_by 1 false 12 (ascii " ") none ≡ ascii "12"
unfolding label_by author_year or_number trim trim_start trim_end is_white space_width first last_end part ascii decimal last_digits count_in
nothing_left = refl

-- "A suppressed item shows the year even if that is empty, else its number."
empty_year : label_by 1 true 12 (ascii "Ant") (some []) ≡ []
unfolding label_by year_only ascii
empty_year = refl

white_year : label_by 1 true 12 (ascii "Ant") (some (ascii " 1999")) ≡ ascii " 1999"
unfolding label_by year_only ascii
white_year = refl

no_year : label_by 1 true 12 (ascii "Ant") none ≡ ascii "12"
unfolding label_by year_only decimal last_digits count_in ascii
no_year = refl
