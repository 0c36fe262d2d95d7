-- THEOREMS `SpellingsAreMatchers`, `Matchers51` and `SpellingsFound`,
-- by computing.
use mathlib.Core.Path.{refl}
use Rattle.base.specs.Lists.{up_from}
use Rattle.base.specs.Ascii.{ascii}
use Rattle.locator.specs.Matchers.{matchers}
use Rattle.locator.specs.Locators.{label_of, or_page, match_in, stands, may_follow, is_sign, fits, lower}
use Rattle.locator.specs.Facts.{spellings, words_with, found_with, found_from, SpellingsAreMatchers, Matchers51, SpellingsFound}

pub spellings_are_matchers : SpellingsAreMatchers
unfolding spellings words_with matchers up_from ascii
spellings_are_matchers = refl

pub matchers_51 : Matchers51
unfolding matchers
matchers_51 = refl

pub spellings_found : SpellingsFound
unfolding found_from found_with spellings label_of or_page match_in stands may_follow is_sign fits lower matchers ascii
spellings_found = refl
