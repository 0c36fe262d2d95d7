-- Theorems: spans and locators moved by a number of bytes,
-- of which the theorems about items speak.
use Rattle.std.specs.Prelude.{ℕ, ◌+◌, eqb}
use Rattle.base.specs.Pick.{pick}
use Rattle.base.specs.declared.Span.{Span}
use Rattle.base.specs.Spans.{span, missing}
use Rattle.locator.specs.declared.Locator.{Locator}
use Rattle.locator.specs.declared.Locator.TheVariants.{Nothing, Plain, Labelled}

-- a span `d` places further on; one that is missing stays so
unfoldable pub moved_span : ℕ → Span → Span
moved_span d p = pick (eqb p.len 0) missing (span (p.at + d) p.len)

-- a locator
abbrev pub moved_locator : ℕ → Locator → Locator
moved_locator d Nothing = Nothing
moved_locator d (Plain suffix) = Plain (moved_span d suffix)
moved_locator d (Labelled term value suffix) = Labelled term (moved_span d value) (moved_span d suffix)
