-- Document 01, Added by design: definition lines: where one starts, which groups stand in it,
-- and the attributes that it holds.
use Rattle.std.specs.Prelude.{ℕ, ◌+◌, ◌-◌, List, [], ◌∷◌, Bool, false, not, ◌&&◌, ◌||◌, length, eqb, ltb}
use Rattle.base.specs.Pick.{pick}
use Rattle.base.specs.First.{first_of, first_other}
use Rattle.base.specs.Lists.{byte_at, is_at, part}
use Rattle.base.specs.Spans.{bytes_of}
use Rattle.item.specs.declared.Item.{Item}
use Rattle.item.specs.Group.{Group}

-- the first LF from `a` on; `e` where none stands before it
unfoldable pub break_at : List ℕ → ℕ → ℕ → ℕ
break_at text a e = first_of 10 text a e

-- an LF stands from `a` up to `e`
abbrev pub broken : List ℕ → ℕ → ℕ → Bool
broken text a e = ltb (break_at text a e) e

-- "starts (text start, or after an LF outside groups) with a group". A group ends with `]`, so an LF just before one is outside groups.
unfoldable pub starts_line : List ℕ → ℕ → Bool
starts_line text at = eqb at 0 || eqb (byte_at text (at - 1)) 10

-- "no prefix, no locator, not suppressed"; a part that is there has a byte or more
unfoldable pub bare_item : Item → Bool
bare_item i = eqb i.prefix.len 0 && eqb i.locator.len 0 && not i.suppressed

-- "a group of one item, no prefix, no locator, not suppressed"
unfoldable pub only_key : List Item → Bool
only_key [] = false
only_key (i ∷ []) = bare_item i
only_key (i ∷ j ∷ more) = false

-- "then `:` and at least one space", after the close of the group
unfoldable pub colon_after : List ℕ → ℕ → Bool
colon_after text close = is_at text (close + 1) 58 && is_at text (close + 2) 32

-- the group starts a definition line
unfoldable pub defines : List ℕ → Group → Bool
defines text g = starts_line text g.at && only_key g.items && colon_after text g.close

-- "It runs to the next LF outside groups." Whether a group stands in a definition line: it starts one; or the group before it, which
-- ended at `from`, stood in one, and no LF is between them.
unfoldable pub in_line : List ℕ → Bool → ℕ → Group → Bool
in_line text before from g = defines text g || before && not (broken text from g.at)

-- where a group ends
abbrev pub group_end : Group → ℕ
group_end g = g.close + 1

-- where the next group begins, `next` being the groups after one; the text's end where there is none
abbrev pub next_open : List ℕ → List Group → ℕ
next_open text [] = length text
next_open text (g ∷ gs) = g.at

-- "after those spaces": the first byte after the `:` that is no space
unfoldable pub after_spaces : List ℕ → ℕ → ℕ
after_spaces text close = first_other 32 text (close + 2) (length text)

-- the first `}` from `a` up to `e`; `e` where none is there
unfoldable pub brace_at : List ℕ → ℕ → ℕ → ℕ
brace_at text a e = first_of 125 text a e

-- the part from after the `{` at `a` to the first `}` before `e`, the end of the plain run; empty where it has none
unfoldable pub braced_at : List ℕ → ℕ → ℕ → List ℕ
braced_at text a e = pick (is_at text a 123 && ltb (brace_at text a e) e) (part text (a + 1) (brace_at text a e)) []

-- "If the plain run after those spaces starts with `{` and holds `}`, the part between that and the first `}` is its attributes."
-- Without them a line gives no author and no year, as with empty ones. The line's first group closes at `close`, and the group after
-- that one begins at `next`: the plain run ends there, or at an LF before that.
unfoldable pub attributes_of : List ℕ → ℕ → ℕ → List ℕ
attributes_of text close next = braced_at text (after_spaces text close) (break_at text (after_spaces text close) next)

-- an item's key
abbrev pub key_of : List ℕ → Item → List ℕ
key_of text i = bytes_of text i.key

-- the key that a group of one item defines
unfoldable pub defined_key : List ℕ → List Item → List ℕ
defined_key text [] = []
defined_key text (i ∷ more) = key_of text i
