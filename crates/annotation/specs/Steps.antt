-- Theorems: what the code's passes leave is what the paper says. The sweep leaves item and group records (crate sweep), a pass
-- numbers them (crate numbering), and another orders the references (crate order). Proved in proofs/.
use Rattle.std.specs.Prelude.{ℕ, ◌*◌, ◌≤◌, ◌<◌, ◌≡◌, false, List, ◌++◌, length}
use Rattle.base.specs.Sorted.{Each}
use Rattle.item.specs.Group.{Group}
use Rattle.records.specs.Widths.{item_width}
use Rattle.definition.specs.Defs.{def_of}
use Rattle.sweep.specs.Sweep.{Lent, sweep_run}
use Rattle.standing.specs.GroupRecords.{group_records, item_records, item_count}
use Rattle.standing.specs.Swept.{swept_from}
use Rattle.records.specs.Widths.{group_width}
use Rattle.definition.specs.Definitions.{definition_in}
use Rattle.numbering.specs.Numbers.{Numbered, number_all}
use Rattle.annotation.specs.Ordering.{references_then}
use Rattle.annotation.specs.Order.{references_of}
use Rattle.annotation.specs.Content.{Areas, placed_of, tally_of, content_of}

-- groups as a sweep of a text finds them, the text being short enough: each closes after its bracket and in the text, and there are 3 bytes
-- of text for each item
pub record Fits (text : List ℕ) (all : List Group) : Type 0 where
  pub short : length text ≤ 65535
  pub closes : Each (λ (g : Group). (g.at < g.close) × (g.close < length text)) all
  pub room : 3 * item_count all ≤ length text

-- the records that the sweep leaves, and what the areas hold beyond
abbrev pub swept_items : List Group → List ℕ → List ℕ
swept_items all rest = item_records all ++ rest

-- the group records after the sweep, before what the area held behind them
abbrev pub swept_groups : List ℕ → List Group → List ℕ → List ℕ
swept_groups text all rest = group_records 0 (swept_from text false 0 all) ++ rest

-- the records of the sweep after the pass that numbers them
abbrev pub numbered_from : List ℕ → ℕ → List Group → List ℕ → List ℕ → List ℕ → Numbered
numbered_from text mode all pool rest_items rest_groups =
    number_all text mode pool (length all) (swept_items all rest_items) (swept_groups text all rest_groups)

-- THEOREM: the groups of a sweep fit so, whatever index and note it is lent
abbrev pub SweptFits : Type 0
SweptFits = (text : List ℕ) (l : Lent) → length text ≤ 65535 → Fits text (sweep_run text l).groups

-- THEOREM: the definition of a key by the records is the paper's
abbrev pub DefinitionsAgree : Type 0
DefinitionsAgree =
    (text : List ℕ) (all : List Group) (pool rest_items rest_groups key : List ℕ) → Fits text all
    → definition_in text (swept_groups text all rest_groups) (swept_items all rest_items) (length all) pool key ≡ def_of text all pool key

-- records, labels and the count of sources
pub record NumberedAs (text : List ℕ) (mode : ℕ) (all : List Group) (pool rest_items rest_groups : List ℕ) : Type 0 where
  pub items : (numbered_from text mode all pool rest_items rest_groups).items ≡ (tally_of text mode all pool).records ++ rest_items
  pub groups : (numbered_from text mode all pool rest_items rest_groups).groups ≡ group_records 0 (placed_of text all pool) ++ rest_groups
  pub labels : (numbered_from text mode all pool rest_items rest_groups).labels ≡ (tally_of text mode all pool).labels
  pub sources : (numbered_from text mode all pool rest_items rest_groups).sources ≡ length (tally_of text mode all pool).sources

-- THEOREM: the pass over the records numbers as the paper does
abbrev pub NumbersAgree : Type 0
NumbersAgree =
    (text : List ℕ) (mode : ℕ) (all : List Group) (pool rest_items rest_groups : List ℕ) → Fits text all
    → NumberedAs text mode all pool rest_items rest_groups

-- THEOREM: the order over the records is the paper's reference order
abbrev pub ReferencesAgree : Type 0
ReferencesAgree =
    (text : List ℕ) (mode : ℕ) (all : List Group) (pool rest_items rest_groups : List ℕ) → Fits text all
    → references_then text mode pool (length all) (item_count all) (numbered_from text mode all pool rest_items rest_groups)
    ≡ references_of text mode all pool (tally_of text mode all pool).sources

-- numbers and references as the passes leave them are the content of the annotation, with its lengths
pub record ContentAs (content : Areas) (all : List Group) (n : Numbered) (ordered rest_items rest_groups : List ℕ) : Type 0 where
  pub items : n.items ≡ content.items ++ rest_items
  pub groups : n.groups ≡ content.groups ++ rest_groups
  pub labels : n.labels ≡ content.labels
  pub references : ordered ≡ content.references
  pub items_counted : length content.items ≡ item_width * item_count all
  pub group_count : length content.groups ≡ group_width * length all
  pub source_count : length content.references ≡ n.sources

-- THEOREM: both together write what `content_of` says
abbrev pub ContentAgrees : Type 0
ContentAgrees =
    (text : List ℕ) (mode : ℕ) (all : List Group) (pool rest_items rest_groups : List ℕ) → Fits text all
    → ContentAs (content_of text mode all pool) all (numbered_from text mode all pool rest_items rest_groups)
    (references_then text mode pool (length all) (item_count all) (numbered_from text mode all pool rest_items rest_groups))
    rest_items
    rest_groups
