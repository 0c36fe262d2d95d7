-- Document 01, Corners of the Rust: one item (`parse_item`), a stretch of the text between brackets and `;`.
-- Places count from the text's start.
use Rattle.std.specs.Prelude.{ℕ, ◌+◌, ◌-◌, List, Bool, true, false, ◌&&◌, ◌||◌, not, eqb, ltb, Option, Some, None}
use Rattle.base.specs.Pick.{pick}
use Rattle.base.specs.First.{first}
use Rattle.base.specs.Lists.{byte_at}
use Rattle.base.specs.Spans.{span_of}
use Rattle.text.specs.Escape.{escaped_at}
use Rattle.text.specs.Trim.{trim_start, trim_end}
use Rattle.key.specs.Keys.{key_end}
use Rattle.locator.specs.Locators.{locator_of}
use Rattle.item.specs.declared.Item.{Item}

-- an unescaped `@` at place `i`
unfoldable pub at_sign : List ℕ → ℕ → Bool
at_sign s i = eqb (byte_at s i) 64 && not (escaped_at s i)

-- a key from `k` up to `m` "that ends the item or meets `,`", the trimmed item ending at `e`. (White space, `;` or `]` stands there,
-- or the text ends, and no key byte is one of these: so a key of the text never passes `e`.)
unfoldable pub key_serves : List ℕ → ℕ → ℕ → ℕ → Bool
key_serves s e k m = ltb k m && (eqb m e || ltb m e && eqb (byte_at s m) 44)

-- "unescaped `@` with a key that ends the item or meets `,`"
unfoldable pub wins : List ℕ → ℕ → ℕ → Bool
wins s e i = at_sign s i && key_serves s e (i + 1) (key_end s (i + 1))

-- "The first .. wins": its place, from `a` up to `e`; the later of `a` and `e` where there is none
unfoldable pub winner : List ℕ → ℕ → ℕ → ℕ
winner s a e = first (wins s e) (e - a) a

-- "`-` just before the `@`, itself unescaped, suppresses the author", in an item that begins at `a`
unfoldable pub suppresses : List ℕ → ℕ → ℕ → Bool
suppresses s a i = ltb a i && eqb (byte_at s (i - 1)) 45 && not (escaped_at s (i - 1))

-- where the prefix of an item that begins at `a` ends, the `@` being at `i`
unfoldable pub prefix_end : List ℕ → ℕ → ℕ → ℕ
prefix_end s a i = trim_end s a (pick (suppresses s a i) (i - 1) i)

-- where the locator begins, the key ending at `m`: after the `,`, trimmed. Where it begins at `e` (`[@a,]`), or where the key ends
-- the item, there is none.
unfoldable pub locator_start : List ℕ → ℕ → ℕ → ℕ
locator_start s m e = trim_start s (m + 1) e

-- the item whose `@` is at `i`, its key ending at `m`, in the trimmed stretch from `a` to `e`
unfoldable pub item_at : List ℕ → ℕ → ℕ → ℕ → ℕ → Item
item_at s a e i m = record {
  prefix = span_of a (prefix_end s a i);
  key = span_of (i + 1) m;
  locator = span_of (locator_start s m e) e;
  parts = locator_of s (locator_start s m e) e;
  suppressed = suppresses s a i;
}

-- the item in a stretch that is trimmed
unfoldable pub item_in : List ℕ → ℕ → ℕ → Option Item
item_in s a e = pick (ltb (winner s a e) e) (Some (item_at s a e (winner s a e) (key_end s (winner s a e + 1)))) None

-- the item in the stretch from `a` to `e`: "Trims Unicode white space"
unfoldable pub item_of : List ℕ → ℕ → ℕ → Option Item
item_of s a e = item_in s (trim_start s a e) (trim_end s (trim_start s a e) e)

-- a stretch that was parsed to an item
abbrev pub is_good : Option Item → Bool
is_good (Some it) = true
is_good None = false
