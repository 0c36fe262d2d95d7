-- Cases: items, the pieces of a group
-- and the judgement on them.
use Rattle.std.specs.Prelude.{ℕ, ◌≡◌, refl, [], ◌∷◌, true, false, Some, None, Ok, Err}
use Rattle.item.specs.Judge.{bad_item_at}
use Rattle.base.specs.Ascii.{ascii}
use Rattle.base.specs.First.{first}
use Rattle.base.specs.Last.{last_end}
use Rattle.base.specs.Spans.{span, missing, span_of}
use Rattle.text.specs.Escape.{escaped_at, slashes}
use Rattle.white.specs.White.{space_width, is_white}
use Rattle.text.specs.Trim.{trim_start, trim_end}
use Rattle.key.specs.Keys.{is_first, is_mark, is_key, run_end, without_marks, key_end}
use Rattle.locator.specs.declared.Locator.TheVariants.{Nothing, Plain, Labelled}
use Rattle.locator.specs.declared.Term.TheVariants.{Page}
use Rattle.locator.specs.Matchers.{matchers}
use Rattle.locator.specs.Locators.{locator_of, locator_from, labelled, valued, value_end, is_loose, value_run, in_value, roman_end, letters_end, is_digit_or_mark, is_roman, label_of, or_page, match_in, stands, may_follow, fits, lower, skip_blanks}
use Rattle.item.specs.Items.{item_of, item_in, item_at, locator_start, prefix_end, suppresses, winner, wins, key_serves, at_sign}
use Rattle.item.specs.Pieces.{pieces_of, pieces, pieces_in, semicolon_at, items_start, plus_at, stretch, parsed, all_good}
use Rattle.item.specs.Judge.{judged_of, judged_in, first_bad}

-- one name that opens every definition which the cases reach
unfoldable opened : ℕ
unfolding judged_of judged_in first_bad all_good parsed pieces_of pieces pieces_in semicolon_at items_start plus_at
    item_of item_in item_at locator_start prefix_end suppresses winner wins key_serves at_sign
    locator_of locator_from labelled valued value_end is_loose value_run in_value roman_end letters_end is_digit_or_mark is_roman label_of or_page match_in stands may_follow
    fits lower skip_blanks matchers is_first is_mark is_key run_end without_marks key_end
    space_width is_white trim_start trim_end escaped_at slashes first last_end span_of ascii
opened = 0

-- "`[x -@a, p. 3]` prefix `x`, suppressed, page, `3`"
page_three : item_of (ascii "[x -@a, p. 3]") 1 12
    ≡ Some (record { prefix = span 1 1; key = span 5 1; locator = span 8 4; parts = Labelled Page (span 11 1) missing; suppressed = true })
unfolding opened
page_three = refl

-- "`[@a,]` has no locator."
comma : item_of (ascii "[@a,]") 1 4
    ≡ Some (record { prefix = missing; key = span 2 1; locator = missing; parts = Nothing; suppressed = false })
unfolding opened
comma = refl

-- `[ @a ]`: white space around the item belongs to no part of it
alone : item_of (ascii "[ @a ]") 1 5
    ≡ Some (record { prefix = missing; key = span 3 1; locator = missing; parts = Nothing; suppressed = false })
unfolding opened
alone = refl

-- "The first .. wins": `[@a, @b]` has the key `a`
first_wins : item_of (ascii "[@a, @b]") 1 7
    ≡ Some (record { prefix = missing; key = span 2 1; locator = span 5 2; parts = Plain (span 5 2); suppressed = false })
unfolding opened
first_wins = refl

-- "In `[@ant., p. 3]` a stop now stands before the comma, and no group is found"
stop_before_comma : item_of (ascii "[@ant., p. 3]") 1 12 ≡ None
unfolding opened
stop_before_comma = refl

-- where a key does not serve the next `@` is tried: `[@a.,@b]` has the key `b` and the prefix `@a.,`
next_wins : item_of (ascii "[@a.,@b]") 1 7
    ≡ Some (record { prefix = span 1 4; key = span 6 1; locator = missing; parts = Nothing; suppressed = false })
unfolding opened
next_wins = refl

-- "`[\@a]` 5"
escaped : item_of (ascii "[\\@a]") 1 4 ≡ None
unfolding opened
escaped = refl

-- `[+@a;]`: two pieces, the second empty
two_pieces : pieces_of (ascii "[+@a;]") 0 5 ≡ stretch 2 4 ∷ stretch 5 5 ∷ []
unfolding opened
two_pieces = refl

-- `[+@a;@b]` has two good items
both_good : judged_of (ascii "[+@a;@b]") 0 7 ≡ Ok 2
unfolding opened
both_good = refl

-- "one bad item means none": the second item of `[@a;b;]` is bad
second_bad : judged_of (ascii "[@a;b;]") 0 6 ≡ Err (bad_item_at 1)
unfolding opened
second_bad = refl

-- the one item of `[+]` is empty, and so bad
only_plus : judged_of (ascii "[+]") 0 2 ≡ Err (bad_item_at 0)
unfolding opened
only_plus = refl
