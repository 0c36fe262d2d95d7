-- Document 01, Corners of the Rust: two parts of a text,
-- joined (`csl_to_def`).
use Rattle.std.specs.Prelude.{ℕ, List, ◌++◌}
use Rattle.base.specs.Pick.{pick}
use Rattle.source.specs.Entry.{is_empty}

-- two parts with `sep` between them; an empty part falls out together with it
unfoldable pub beside : List ℕ → List ℕ → List ℕ → List ℕ
beside sep a b = pick (is_empty a) b (pick (is_empty b) a (a ++ (sep ++ b)))
