-- Follows the code; nothing to believe: the parts of a locator
-- whose label has any code.
use Rattle.std.specs.Prelude.{ℕ}
use Rattle.base.specs.declared.Span.{Span}
use Rattle.base.specs.Spans.{missing}
use Rattle.locator.specs.Matchers.{code_of_term}
use Rattle.locator.specs.declared.Locator.{Locator}
use Rattle.locator.specs.declared.Locator.TheVariants.{Nothing, Plain, Labelled}
use Rattle.locator.specs.declared.coded.Coded.{Coded}
use Rattle.locator.specs.declared.coded.Coded.TheVariants.{Nothing as NoneCoded, Plain as PlainCoded, Labelled as LabelCoded}

-- a locator with the code of its term
unfoldable pub coded : Locator → Coded
coded Nothing = NoneCoded
coded (Plain suffix) = PlainCoded suffix
coded (Labelled term value suffix) = LabelCoded (code_of_term term) value suffix

-- the label's code: 0 where there is no label
unfoldable pub coded_code : Coded → ℕ
coded_code NoneCoded = 0
coded_code (PlainCoded suffix) = 0
coded_code (LabelCoded code value suffix) = code

-- the value: missing where there is no label
unfoldable pub coded_value : Coded → Span
coded_value NoneCoded = missing
coded_value (PlainCoded suffix) = missing
coded_value (LabelCoded code value suffix) = value

-- the suffix
unfoldable pub coded_suffix : Coded → Span
coded_suffix NoneCoded = missing
coded_suffix (PlainCoded suffix) = suffix
coded_suffix (LabelCoded code value suffix) = suffix
