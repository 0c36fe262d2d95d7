-- Item and group records in the lent areas:
-- what stands at a place, and what a write leaves.
use Prim.Native.Nat.{ℕ, suc, ◌+◌, ◌*◌, ◌≤◌, ◌<◌}
use native.Mathlib.Omega.{arith}
use mathlib.Core.Path.{◌≡◌, ◌∙◌, ap}
use mathlib.Core.List.{List, [], ◌∷◌, ◌++◌}
use lib.ListN.{length, get_or, set, length-set}
use lib.Seq.{get_or-append-add, get_or-set_same, get_or-set_other}
use Rattle.base.specs.declared.Span.{Span}
use Rattle.base.specs.Spans.{span}
use Rattle.item.specs.declared.Item.{Item}
use Rattle.records.specs.ItemRecords.{item_record}
use Rattle.records.specs.Widths.{item_width, item_number, item_label, item_label_length, item_use, group_standing}
use Rattle.standing.specs.GroupRecords.{Placed, placed, group_record}
use Rattle.records.specs.Widths.{group_width}
use Rattle.records.specs.Fields.{field_at, item_field, group_field}
use Rattle.uses.specs.Uses.{set_last}

pub set_append_add : (xs ys : List ℕ) (n a : ℕ) → set (xs ++ ys) (length xs + n) a ≡ xs ++ set ys n a
set_append_add [] ys n a = let e : 0 + n ≡ n = omega arith in ap (λ (k : ℕ). set ys k a) e
set_append_add (x ∷ xs) ys n a =
    let e : suc (length xs) + n ≡ suc (length xs + n) = omega arith in
    ap (λ (k : ℕ). set (x ∷ (xs ++ ys)) k a) e ∙ ap (λ (l : List ℕ). x ∷ l) (set_append_add xs ys n a)

-- a record after `k` others, and after `g` others
pub item_field_lem : (before here : List ℕ) (k c : ℕ) → length before ≡ item_width * k → item_field (before ++ here) k c ≡ get_or here c 0
unfolding field_at
item_field_lem before here k c h = rw (← h) (get_or-append-add before here c 0)

-- the records after those
pub item_skip : (before after : List ℕ) (k j c : ℕ) → length before ≡ item_width * k → item_field (before ++ after) (k + j) c ≡ item_field after j c
unfolding field_at
item_skip before after k j c h =
    let e : item_width * (k + j) + c ≡ length before + (item_width * j + c) = omega arith in
    rw e (get_or-append-add before after (item_width * j + c) 0)

pub group_field_lem : (before here : List ℕ) (g c : ℕ) → length before ≡ group_width * g → group_field (before ++ here) g c ≡ get_or here c 0
unfolding field_at
group_field_lem before here g c h = rw (← h) (get_or-append-add before here c 0)

-- the last four numbers of an item record
pub set_last_lem : (before : List ℕ) (i : Item) (n₀ u₀ : ℕ) (l₀ : Span) (after : List ℕ) (k n u at len : ℕ)
    → length before ≡ item_width * k
    → set_last (before ++ (item_record i n₀ u₀ l₀ ++ after)) k n u at len ≡ before ++ (item_record i n u (span at len) ++ after)
unfolding set_last item_record
set_last_lem before i n₀ u₀ l₀ after k n u at len h =
    rw (← h) (rw (set_append_add, set_append_add, set_append_add, set_append_add))

-- the standing of a group record
pub set_standing : (before : List ℕ) (p : Placed) (after : List ℕ) (g k s : ℕ) → length before ≡ group_width * g
    → set (before ++ (group_record k p ++ after)) (group_width * g + group_standing) s ≡ before ++ (group_record k (placed p.group s) ++ after)
unfolding group_record
set_standing before p after g k s h = rw (← h) (set_append_add before _ 4 s)

-- areas whose records agree, but for the last four numbers of items, and the standings of groups
abbrev pub SameItems : List ℕ → List ℕ → Type 0
SameItems items others = (k c : ℕ) → c < 12 → item_field items k c ≡ item_field others k c

abbrev pub SameGroups : List ℕ → List ℕ → Type 0
SameGroups groups others = (g c : ℕ) → c < 4 → group_field groups g c ≡ group_field others g c

module _ (items : List ℕ) (k n u at len : ℕ) where
  -- the last four numbers of an item record, written one after the other
  abbrev one : List ℕ
  one = set items (item_width * k + item_number) n

  abbrev second : List ℕ
  second = set one (item_width * k + item_use) u

  abbrev third : List ℕ
  third = set second (item_width * k + item_label) at

  -- a place that is none of those that are written
  set_last_away : (p : ℕ) → ((c : ℕ) → 12 ≤ c → c < item_width → p ≡ item_width * k + c → ⊥)
      → get_or (set_last items k n u at len) p 0 ≡ get_or items p 0
  unfolding set_last
  set_last_away p h =
      get_or-set_other third (item_width * k + item_label_length) p len 0 (h 15 (omega arith) (omega arith))
      ∙ get_or-set_other second (item_width * k + item_label) p at 0 (h 14 (omega arith) (omega arith))
      ∙ get_or-set_other one (item_width * k + item_use) p u 0 (h 13 (omega arith) (omega arith))
      ∙ get_or-set_other items (item_width * k + item_number) p n 0 (h 12 (omega arith) (omega arith))

  -- no other item record changes
  pub set_last_other : (j c : ℕ) → (j ≡ k → ⊥) → c < item_width → item_field (set_last items k n u at len) j c ≡ item_field items j c
  unfolding field_at
  set_last_other j c h l = set_last_away (item_width * j + c) (λ d a b e. h (omega arith))

  -- the number and the label pair of the record itself
  module _ (h : item_width * k + item_width ≤ length items) where
    pub set_last_number : item_field (set_last items k n u at len) k item_number ≡ n
    unfolding field_at set_last
    set_last_number =
        get_or-set_other third (item_width * k + item_label_length) (item_width * k + item_number) len 0 (λ e. omega arith)
        ∙ get_or-set_other second (item_width * k + item_label) (item_width * k + item_number) at 0 (λ e. omega arith)
        ∙ get_or-set_other one (item_width * k + item_use) (item_width * k + item_number) u 0 (λ e. omega arith)
        ∙ get_or-set_same items (item_width * k + item_number) n 0 (omega arith)

    pub set_last_at : item_field (set_last items k n u at len) k item_label ≡ at
    unfolding field_at set_last
    set_last_at =
        get_or-set_other third (item_width * k + item_label_length) (item_width * k + item_label) len 0 (λ e. omega arith)
        ∙ get_or-set_same second (item_width * k + item_label) at 0 (simp length-set (omega arith))

    pub set_last_len : item_field (set_last items k n u at len) k item_label_length ≡ len
    unfolding field_at set_last
    set_last_len = get_or-set_same third (item_width * k + item_label_length) len 0 (simp length-set (omega arith))

pub set_last_same : (items : List ℕ) (k n u at len : ℕ) → SameItems (set_last items k n u at len) items
unfolding field_at
set_last_same items k n u at len j c h = set_last_away items k n u at len (item_width * j + c) (λ d a b e. omega arith)

pub set_standing_same : (groups : List ℕ) (g s : ℕ) → SameGroups (set groups (group_width * g + group_standing) s) groups
unfolding field_at
set_standing_same groups g s j c h = get_or-set_other groups (group_width * g + group_standing) (group_width * j + c) s 0 (λ e. omega arith)
