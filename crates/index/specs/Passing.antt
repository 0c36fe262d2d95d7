-- Follows the code; nothing to believe: a build as the code does it: it clears the index, takes the turns of the scan, and clears the
-- records. A turn is that of one byte, and goes on over the ordinary bytes after it, which change nothing but what was read.
use Rattle.std.specs.Prelude.{ℕ, zero, suc, ◌-◌, ◌≤◌, List, Bool, true, ◌&&◌, ◌||◌, not, ◌≡◌, length, get_or, set, eqb, ltb}
use Rattle.base.specs.Pick.{pick}
use Rattle.base.specs.Lists.{byte_at}
use Rattle.base.specs.First.{first}
use Rattle.base.specs.Last.{last_end}
use Rattle.white.specs.White.{is_white}
use Rattle.index.specs.declared.Bracket.{Bracket}
use Rattle.index.specs.declared.Scan.{Scan}
use Rattle.index.specs.declared.Plan.{Plan}
use Rattle.index.specs.Built.{blank}
use Rattle.index.specs.Building.{Both}
use Rattle.index.specs.Scan.{read_on, next_with, scan_plan, step_index, step_records}

-- none of `;` `@` `[` `\` `]`
abbrev pub is_ordinary : ℕ → Bool
is_ordinary b = not (eqb b 59) && not (eqb b 64) && (ltb b 91 || ltb 93 b)

-- the first place from `i` on that holds no such byte, or the text's end
unfoldable pub ordinary_end : List ℕ → ℕ → ℕ
ordinary_end s i = first (λ j. not (is_ordinary (byte_at s j))) (length s - i) i

-- where the content ends after the `n` bytes from `a` on; it ended at `content` before them
abbrev pub content_in : List ℕ → ℕ → ℕ → ℕ → ℕ
content_in s a n content = last_end (λ i. not (is_white s i)) n a content

-- the state after an ordinary byte
abbrev pub passed : List ℕ → Scan → Scan
passed s c = next_with c c.depth c.inner c.bad (read_on s c.at c.reads)

-- the scan after `n` ordinary bytes
unfoldable pub passing : ℕ → List ℕ → Scan → Scan
passing zero s c = c
passing (suc n) s c = passed s (passing n s c)

-- the scan after all ordinary bytes from its place on
unfoldable pub skipped : List ℕ → Scan → Scan
skipped s c = passing (ordinary_end s c.at - c.at) s c

-- a turn: that of the scan at a byte of the text, and on over the ordinary bytes after it
unfoldable pub turn_of : List ℕ → Scan → Bracket → Plan
turn_of s c outer = record {
  next = skipped s (scan_plan s c outer).next;
  slot = (scan_plan s c outer).slot;
  top = (scan_plan s c outer).top;
  place = (scan_plan s c outer).place;
  mark = (scan_plan s c outer).mark;
}

-- the turn of the scan, the record around taken from the lent ones
unfoldable pub turn_at : List ℕ → Scan → List Bracket → Plan
turn_at s c records = turn_of s c (get_or records (c.depth - 1) blank)

-- whether the scan has a turn to do
unfoldable pub unread : List ℕ → Scan → Bool
unread s c = ltb c.at (length s)

-- what a turn of the code asks for: a text of at most 65,535 bytes, a turn to do, and counts that the place bounds
pub record Fine (s : List ℕ) (c : Scan) : Type 0 where
  pub short : length s ≤ 65535
  pub goes : unread s c ≡ true
  pub deep : c.depth ≤ c.at
  pub few : c.bad ≤ c.at

-- an area whose first `n` places hold `x`
unfoldable pub filled : {A : Type 0} → A → ℕ → List A → List A
filled x zero area = area
filled x (suc n) area = set (filled x n area) n x

-- index and bracket records after at most `n` turns
unfoldable pub runs : ℕ → List ℕ → Scan → List ℕ → List Bracket → Both
runs zero s c index records = (index, records)
runs (suc n) s c index records =
    pick (unread s c)
    (runs n s (turn_at s c records).next (step_index (turn_at s c records) index) (step_records (turn_at s c records) records))
    (index, records)
