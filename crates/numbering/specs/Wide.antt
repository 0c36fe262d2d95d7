-- Follows the code; nothing to believe: a numbering that may have run out
-- of room for its labels.
use Rattle.std.specs.Prelude.{ℕ, ◌+◌, ◌*◌, ◌≤◌, ◌≡◌, List, true, length, leb}
use Rattle.numbering.specs.declared.Numbering.{Numbering}
use Rattle.numbering.specs.declared.wide.WideNumbering.{WideNumbering}
use Rattle.records.specs.Widths.{item_width}
use Rattle.numbering.specs.Numbers.{Numbered}
use Rattle.numbering.specs.Progress.{room_of, numbering_of, Agrees, Labelled}

-- its counts
abbrev pub counts_of : WideNumbering → Numbering
counts_of s = numbering_of s.sources s.label_bytes

-- The areas have what `t` says where its labels fit. Where those do not, nothing is said of the areas.
pub record WideHolds (t : Numbered) (room : ℕ) (before : List ℕ) (s : WideNumbering) (items groups labels : List ℕ) : Type 0 where
  pub fits : s.fits ≡ leb (length t.labels) room
  pub agrees : s.fits ≡ true → Agrees t before (counts_of s) items groups labels

-- Whatever the areas hold, they hold the next after a step, which gives `more` sources at most.
pub record WideAdvances (more : ℕ) (step : Numbered → Numbered) (s r : WideNumbering)
    (items groups labels items' groups' labels' : List ℕ) : Type 0 where
  pub holds : (t : Numbered) (before : List ℕ) → WideHolds t (room_of labels) before s items groups labels
      → WideHolds (step t) (room_of labels) before r items' groups' labels'
  pub few : r.sources ≤ s.sources + more
  pub room : r.label_bytes ≤ room_of labels
  pub long : length labels' ≡ length labels

-- While the labels fit, those so far stand where the records say; there is room for `m` item records.
pub record WideLabelled (text : List ℕ) (mode : ℕ) (pool : List ℕ) (n m : ℕ) (s : WideNumbering) (items groups labels : List ℕ) : Type 0 where
  pub room : item_width * m ≤ length items
  pub stands : s.fits ≡ true → Labelled text mode pool n m (counts_of s) items groups labels
