-- Document 01, Added by design: demand 2. With no index or the one that earlier calls left, every group the rules admit is found with
-- those items, locators, numbers, uses and labels, and nothing else is.
use Rattle.std.specs.Prelude.{ℕ, ◌≤◌, ◌<◌, ◌≡◌, true, false, List, ◌⊎◌, length}
use Rattle.base.specs.Sorted.{Each, Sorted}
use Rattle.index.specs.declared.Bracket.{Bracket}
use Rattle.index.specs.Entries.{opens_at}
use Rattle.resolve.specs.Groups.{Found, group_at}
use Rattle.item.specs.Group.{Group}
use Rattle.records.specs.ItemRecords.{records_length}
use Rattle.lookup.specs.Refusals.{look_up_refusal}
use Rattle.lookup.specs.LookUps.{LookedUp, look_up_gives, look_up_refused, look_up_run}
use Rattle.resolve.specs.Lefts.{Left}
use Rattle.definition_line.specs.Lines.{group_end}
use Rattle.sweep.specs.Sweep.{sweep_of}
use Rattle.annotation.specs.Content.{Areas, content_of}
use Rattle.annotation.specs.Call.{Annotated, annotate_refused, annotate_gives, annotate_run, room_for, zero_filled}
use Rattle.annotation.specs.Standings.{Some}
use Rattle.annotation.specs.Refusal.{annotate_refusal}
use Rattle.histories.specs.Said.{Says}

-- The rules admit the group `g` at `p`: an unescaped `[` stands there, the unlimited scan gives its close, and `match_citation` takes the
-- items and the byte after that. No index, no note and no limit of 64 is in it.
abbrev pub Admits : List ℕ → ℕ → Group → Type 0
Admits text p g = (opens_at text p ≡ true) × (group_at text p ≡ Found g)

-- What a look-up at `at` answers, `n` index and `m` bracket records being lent and none of 1, 2, 3, 4, 9 refusing it: the group that the
-- rules admit there, with the records of its items, or 10 where these are longer than the area; 5 where they admit none. Nothing else:
-- an accepted call gives a group that they admit, and 5 comes only where they admit none.
pub record LookUpFinds (text : List ℕ) (at n m : ℕ) (items : List ℕ) (answer : LookedUp) : Type 0 where
  pub found : look_up_refusal text at n m ≡ 0 → (g : Group) → Admits text at g → records_length g ≤ length items → answer ≡ look_up_gives g items
  pub no_room : look_up_refusal text at n m ≡ 0 → (g : Group) → Admits text at g → length items < records_length g → answer ≡ look_up_refused 10 items
  pub none : look_up_refusal text at n m ≡ 0 → ((g : Group) → Admits text at g → ⊥) → answer ≡ look_up_refused 5 items
  pub found_only : answer.number ≡ 0 → (g : Group) × Admits text at g × (answer ≡ look_up_gives g items)
  pub none_only : answer.number ≡ 5 → (g : Group) → Admits text at g → ⊥

-- The groups of a text: the rules admit each of them; they stand apart, from left to right; and every group that the rules admit is one of
-- them, or begins inside one, "on a group go on after it".
pub record AllOf (text : List ℕ) (all : List Group) : Type 0 where
  pub admitted : Each (λ (g : Group). Admits text g.at g) all
  pub apart : Sorted (λ (g h : Group). group_end g ≤ h.at) all
  pub every : (p : ℕ) (g : Group) → Admits text p g → Some (λ (h : Group). (h ≡ g) ⊎ ((h.at < p) × (p < group_end h))) all

-- what is said of them: item, group and reference records, and the label bytes
abbrev pub said : List ℕ → ℕ → List ℕ → Areas
said text mode pool = content_of text mode (sweep_of text) pool

-- What an annotation answers, none of 1, 2, 6, 7, 9 refusing it: those groups, their counts, and what is said of them; or 10 where that is
-- longer than its areas. Nothing else: an accepted call gives just these.
pub record AnnotationFinds (text : List ℕ) (mode : ℕ) (pool : List ℕ) (n m : ℕ) (areas : Areas) (answer : Annotated) : Type 0 where
  pub found : annotate_refusal text mode pool n m ≡ 0 → room_for (said text mode pool) areas ≡ true
      → answer ≡ annotate_gives (sweep_of text) (said text mode pool) areas
  pub no_room : annotate_refusal text mode pool n m ≡ 0 → room_for (said text mode pool) areas ≡ false
      → answer ≡ annotate_refused 10 (zero_filled areas)
  pub found_only : answer.number ≡ 0 → answer ≡ annotate_gives (sweep_of text) (said text mode pool) areas

-- look-ups and annotations as run, with this index, this note and these bracket records, find the groups that the rules admit
pub record CallsFind (text index : List ℕ) (note : ℕ) (records : List Bracket) : Type 0 where
  pub look_ups : (at : ℕ) (items : List ℕ)
      → LookUpFinds text at (length index) (length records) items (look_up_run text at note index records items).answer
  pub annotations : (mode : ℕ) (pool : List ℕ) (areas : Areas)
      → AnnotationFinds text mode pool (length index) (length records) areas (annotate_run text mode pool note index records areas).answer

-- THEOREM `EveryGroup`, proved in proofs/Demand2: demand 2. The groups of the sweep are all that the rules admit; what is said of them is
-- what the rules say of each item; and with no index or the one that earlier calls left the calls find them, say this, and nothing else.
abbrev pub EveryGroup : Type 0
EveryGroup =
    (text : List ℕ)
    → AllOf text (sweep_of text)
    × ((mode : ℕ) (pool : List ℕ) → Says text mode pool (sweep_of text) (said text mode pool))
    × ((index : List ℕ) (note : ℕ) (records : List Bracket) → Left text index note → CallsFind text index note records)
