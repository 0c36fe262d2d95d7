-- The lines of the listing, piece by piece, in the form of the goals:
-- what each writer adds is what its line says.
use Prim.Native.Nat.{ℕ, zero, suc, ◌+◌, ◌-◌, ◌*◌, ◌≤◌, ◌<◌}
use native.Mathlib.Omega.{arith}
use mathlib.Core.Path.{◌≡◌, refl, ◌∙◌, ap}
use mathlib.Core.List.{List, [], ◌∷◌, ◌++◌, append_assoc}
use lib.ListN.{length, get_or, drop}
use lib.Seq.{get_or-drop, drop-drop}
use borrow.Author.Tests.{ne_eqb}
use Rattle.base.specs.Ascii.{ascii}
use Rattle.decimal.specs.Decimal.{decimal}
use Rattle.records.specs.Records.{key_in}
use Rattle.records.specs.Fields.{field_at, item_field, group_field}
use Rattle.std.specs.Prelude.{Ok, Err}
use Rattle.base.specs.declared.refusal.Refusal.{Refusal}
use Rattle.base.specs.Refusals.{number_of}
use Rattle.base.proofs.Refusals.{number_some}
use Rattle.annotation.specs.declared.answer.Counts.{Counts}
use Rattle.line_writers.specs.Lines.{group_part, item_part, item_line, item_lines, lines_of, group_lines, count_line, refused_line, answer_lines}
use Rattle.source_parts.specs.declared.Text.{Text}
use Rattle.source_parts.specs.Parts.{Adds}
use Rattle.line_writers.specs.Writes.{answer_by}
use Rattle.base.specs.Areas.{Wrote}
use Rattle.line_writers.proofs.Adds.{adds_both, adds_as, Along, along_start, along_next, along_end, front_wrote}
use Rattle.records.specs.Widths.{item_code, item_number, group_place, group_length, group_standing, group_first, group_count, item_width, group_width}

-- a number and the byte after it
abbrev pub field : ℕ → ℕ → List ℕ
field n end = decimal n ++ (end ∷ [])

group_at : (groups : List ℕ) (g c : ℕ) → get_or (drop (group_width * g) groups) c 0 ≡ group_field groups g c
unfolding field_at
group_at groups g c = get_or-drop (group_width * g) groups c 0

item_at : (items : List ℕ) (i c : ℕ) → get_or (drop (item_width * i) items) c 0 ≡ item_field items i c
unfolding field_at
item_at items i c = get_or-drop (item_width * i) items c 0

-- what a line says of its group ------------------------------------------------------------------------------------------------------

pub group_is : (groups : List ℕ) (g : ℕ) → group_part (drop (group_width * g) groups)
    ≡ field (group_field groups g group_place) 32 ++ (field (group_field groups g group_length) 32 ++ field (group_field groups g group_standing) 32)
unfolding group_part ascii
group_is groups g = rw (group_at groups g 0, group_at groups g 1, group_at groups g 4) (simp append_assoc refl)

pub group_part_adds : (groups : List ℕ) (g : ℕ) {o l s : ℕ} {a b c d : Text} → o ≡ group_field groups g group_place
    → l ≡ group_field groups g group_length → s ≡ group_field groups g group_standing
    → Adds (field o 32) a b → Adds (field l 32) b c → Adds (field s 32) c d → Adds (group_part (drop (group_width * g) groups)) a d
group_part_adds groups g {o} {l} {s} eo el es p q r =
    let whole : group_part (drop (group_width * g) groups) ≡ field o 32 ++ (field l 32 ++ field s 32) = rw (eo, el, es) (group_is groups g) in
    adds_both whole p (adds_both refl q r)

-- what it says of its item -----------------------------------------------------------------------------------------------------------

pub item_part_adds : (text items : List ℕ) (i : ℕ) {key : List ℕ} {k n : ℕ} {a b c d e : Text} → key ≡ key_in text items i
    → k ≡ item_field items i item_code → n ≡ item_field items i item_number
    → Adds key a b → Adds (32 ∷ []) b c → Adds (field k 32) c d → Adds (field n 10) d e → Adds (item_part text (drop (item_width * i) items)) a e
unfolding item_part ascii key_in
item_part_adds text items i {key} {k} {n} ek ec en p q r t =
    let whole : item_part text (drop (item_width * i) items) ≡ key ++ ((32 ∷ []) ++ (field k 32 ++ field n 10)) =
    rw (item_at items i 2, item_at items i 3, item_at items i 10, item_at items i 12, ek, ec, en) (simp append_assoc refl) in
    adds_both whole p (adds_both refl q (adds_both refl r t))

-- a line -----------------------------------------------------------------------------------------------------------------------------

pub line_adds : (text group item : List ℕ) {a b c : Text} → Adds (group_part group) a b → Adds (item_part text item) b c → Adds (item_line text group item) a c
unfolding item_line
line_adds text group item p q = adds_both refl p q

-- the lines of a group ---------------------------------------------------------------------------------------------------------------

-- the line of item `i`, before the `n - 1` lines after it
lines_more : (n : ℕ) (text group items : List ℕ) (i : ℕ) → 0 < n
    → item_lines n text group (drop (item_width * i) items)
    ≡ item_line text group (drop (item_width * i) items) ++ item_lines (n - 1) text group (drop (item_width * (i + 1)) items)
unfolding item_lines
lines_more zero text group items i h = absurd (omega arith)
lines_more (suc n) text group items i h =
    let p : suc n - 1 ≡ n = omega arith in
    let q : item_width * i + item_width ≡ item_width * (i + 1) = omega arith in
    rw (p, drop-drop item_width (item_width * i) items, q) refl

module _ (text groups items : List ℕ) (g first count : ℕ) where
  abbrev whole : List ℕ
  whole = lines_of text (drop (group_width * g) groups) items

  abbrev left : ℕ → List ℕ
  left i = item_lines (first + count - i) text (drop (group_width * g) groups) (drop (item_width * i) items)

  abbrev line : ℕ → List ℕ
  line i = item_line text (drop (group_width * g) groups) (drop (item_width * i) items)

  pub lines_start : (t : Text) → first ≡ group_field groups g group_first → count ≡ group_field groups g group_count → Along whole (left first) t t
  unfolding lines_of
  lines_start t e₁ e₂ =
      let p : first + count - first ≡ count = omega arith in
      along_start whole (left first) t (rw (group_at groups g 2, group_at groups g 3, ← e₁, ← e₂, p) refl)

  left_is : (i : ℕ) → i < first + count → left i ≡ line i ++ left (i + 1)
  left_is i h =
      let p : first + count - i - 1 ≡ first + count - (i + 1) = omega arith in
      lines_more (first + count - i) text (drop (group_width * g) groups) items i (omega arith)
      ∙ ap (λ (n : ℕ). line i ++ item_lines n text (drop (group_width * g) groups) (drop (item_width * (i + 1)) items)) p

  module _ {a b : Text} (i : ℕ) (l : Along whole (left i) a b) where
    pub lines_next : {c : Text} → i < first + count → Adds (line i) b c → Along whole (left (i + 1)) a c
    lines_next h p = along_next l (line i) (left (i + 1)) (left_is i h) p

    pub lines_end : first + count ≤ i → Adds whole a b
    unfolding item_lines
    lines_end h = along_end l (let p : first + count - i ≡ 0 = omega arith in rw p refl)

pub ruleset lines_laws = (lines_start, lines_next, lines_end)

-- the lines of all groups ------------------------------------------------------------------------------------------------------------

groups_more : (n : ℕ) (text groups items : List ℕ) (g : ℕ) → 0 < n
    → group_lines n text (drop (group_width * g) groups) items
    ≡ lines_of text (drop (group_width * g) groups) items ++ group_lines (n - 1) text (drop (group_width * (g + 1)) groups) items
unfolding group_lines
groups_more zero text groups items g h = absurd (omega arith)
groups_more (suc n) text groups items g h =
    let p : suc n - 1 ≡ n = omega arith in
    let q : group_width * g + group_width ≡ group_width * (g + 1) = omega arith in
    rw (p, drop-drop group_width (group_width * g) groups, q) refl

module _ (text groups items : List ℕ) (n : ℕ) where
  abbrev all : List ℕ
  all = group_lines n text groups items

  abbrev after : ℕ → List ℕ
  after g = group_lines (n - g) text (drop (group_width * g) groups) items

  abbrev here : ℕ → List ℕ
  here g = lines_of text (drop (group_width * g) groups) items

  pub groups_start : (t : Text) → Along all (after 0) t t
  groups_start t = let p : n - 0 ≡ n = omega arith in along_start all (after 0) t (rw p refl)

  after_is : (g : ℕ) → g < n → after g ≡ here g ++ after (g + 1)
  after_is g h =
      let p : n - g - 1 ≡ n - (g + 1) = omega arith in
      groups_more (n - g) text groups items g (omega arith)
      ∙ ap (λ (m : ℕ). here g ++ group_lines m text (drop (group_width * (g + 1)) groups) items) p

  module _ {a b : Text} (g : ℕ) (l : Along all (after g) a b) where
    pub groups_next : {c : Text} → g < n → Adds (here g) b c → Along all (after (g + 1)) a c
    groups_next h p = along_next l (here g) (after (g + 1)) (after_is g h) p

    pub groups_end : n ≤ g → Adds all a b
    unfolding group_lines
    groups_end h = along_end l (let p : n - g ≡ 0 = omega arith in rw p refl)

pub ruleset groups_laws = (groups_start, groups_next, groups_end)

-- the line of the counts -------------------------------------------------------------------------------------------------------------

-- the words of the line, as bytes
abbrev groups_word : List ℕ
groups_word = 103 ∷ 114 ∷ 111 ∷ 117 ∷ 112 ∷ 115 ∷ 32 ∷ []

abbrev items_word : List ℕ
items_word = 105 ∷ 116 ∷ 101 ∷ 109 ∷ 115 ∷ 32 ∷ []

abbrev sources_word : List ℕ
sources_word = 115 ∷ 111 ∷ 117 ∷ 114 ∷ 99 ∷ 101 ∷ 115 ∷ 32 ∷ []

abbrev refused_word : List ℕ
refused_word = 114 ∷ 101 ∷ 102 ∷ 117 ∷ 115 ∷ 101 ∷ 100 ∷ 32 ∷ []

pub counts_add : (c : Counts) {a b d e : Text} → Adds (groups_word ++ field c.groups 32) a b → Adds (items_word ++ field c.items 32) b d
    → Adds (sources_word ++ field c.sources 10) d e → Adds (count_line (answer_by (Ok c) [] [])) a e
unfolding count_line ascii
counts_add c p q r =
    let whole : count_line (answer_by (Ok c) [] []) ≡ (groups_word ++ field c.groups 32) ++ ((items_word ++ field c.items 32) ++ (sources_word ++ field c.sources 10)) =
    simp append_assoc refl in
    adds_both whole p (adds_both refl q r)

-- the whole --------------------------------------------------------------------------------------------------------------------------

-- a refusal
pub refused_wrote : (number : ℕ) {area last : List ℕ} {a b : Text} → a.len ≡ 0 → a.area.now ≡ area → length (refused_line number) ≤ length area
    → length area ≤ 18446744073709551615 → (a.area.ghost_name ≡ b.area.ghost_name → last ≡ b.area.now) → Adds (refused_word ++ field number 10) a b
    → Wrote (refused_line number) area last b.len
unfolding refused_line ascii
refused_wrote number {area} {last} {a} {b} z s h l e p =
    let w : refused_line number ≡ refused_word ++ field number 10 = simp append_assoc refl in
    front_wrote (refused_line number) area a z s h l e (adds_as w p)

-- the listing of an answer
refused_is : (text items groups : List ℕ) (e : Refusal) → answer_lines text (answer_by (Err e) items groups) ≡ refused_line (number_of e)
unfolding answer_lines
refused_is text items groups e = rw (ne_eqb (number_of e) 0 (number_some e)) refl

module _ (text items groups area : List ℕ) where
  pub refused_room : (e : Refusal) → length (answer_lines text (answer_by (Err e) items groups)) ≤ length area → length (refused_line (number_of e)) ≤ length area
  refused_room e h = rw (refused_is text items groups e) at h

  pub refused_listed : (e : Refusal) {last : List ℕ} {r : ℕ} → Wrote (refused_line (number_of e)) area last r
      → Wrote (answer_lines text (answer_by (Err e) items groups)) area last r
  refused_listed e p = rw (refused_is text items groups e) p

  pub counts_listed : (c : Counts) {last : List ℕ} {a b d : Text} → a.len ≡ 0 → a.area.now ≡ area
      → length (answer_lines text (answer_by (Ok c) items groups)) ≤ length area → length area ≤ 18446744073709551615
      → (a.area.ghost_name ≡ d.area.ghost_name → last ≡ d.area.now) → Adds (count_line (answer_by (Ok c) [] [])) a b
      → Adds (group_lines c.groups text groups items) b d → Wrote (answer_lines text (answer_by (Ok c) items groups)) area last d.len
  unfolding answer_lines count_line
  counts_listed c {last} {a} z s h l e p q =
      front_wrote (answer_lines text (answer_by (Ok c) items groups)) area a z s h l e (adds_both refl p q)
