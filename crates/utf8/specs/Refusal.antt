-- Document 01, Ten numbers: what refuses a text before anything else is looked at:
-- its length, or that it is not UTF-8.
use Rattle.std.specs.Prelude.{ℕ, List}
use Rattle.base.specs.Pick.{pick}
use Rattle.utf8.specs.Utf8.{too_long, utf8}

-- "1 text above 65,535 bytes", "2 text not UTF-8", then what comes next
unfoldable pub after_text : List ℕ → ℕ → ℕ
after_text s next = pick (too_long s) 1 (pick (utf8 s) next 2)

-- "size and locator calls 1, 2"
unfoldable pub text_refusal : List ℕ → ℕ
text_refusal s = after_text s 0
