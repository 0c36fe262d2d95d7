-- The answer that a look-up makes of what `match_citation` gave,
-- in the form of the code's goals.
use Prim.Native.Nat.{ℕ, ◌*◌, ◌/◌, ◌≤◌, ◌<◌}
use native.Mathlib.Omega.{arith}
use mathlib.Core.Path.{◌≡◌, refl, sym, ◌∙◌, ap}
use mathlib.Core.List.{List}
use mathlib.Core.Bool.{Bool, true, false}
use lib.ListN.{length}
use lib.Dec.{ltb}
use borrow.Author.Tests.{lt-ltb, le-ltb}
use Rattle.std.specs.Prelude.{Option, Some, None, Result, Ok, Err}
use Rattle.std.specs.Option.{ok_or}
use Rattle.base.specs.Lists.{written}
use Rattle.base.specs.Refusals.{refusal_of}
use Rattle.base.specs.declared.refusal.Refusal.{Refusal}
use Rattle.base.specs.declared.refusal.Refusal.TheVariants.{NoGroup as NoGroupHere, NoRoom}
use Rattle.item.specs.Pieces.{items_of}
use Rattle.item.specs.Group.{group_of}
use Rattle.resolve.specs.declared.Group.{Group}
use Rattle.resolve.specs.Groups.{Found, NoGroup, judge}
use Rattle.resolve.specs.Looks.{matched, Inside}
use Rattle.resolve.specs.declared.Look.{Look}
use Rattle.resolve.specs.Resolve.{close_after, note_after}
use Rattle.resolve.proofs.Judges.{Cited, matched_is, unmatched_is}
use Rattle.resolve.proofs.Laws.{at_after, at_inside, after_inside}
use Rattle.records.specs.ItemRecords.{records_of, records_length}
use Rattle.records.specs.Writing.{Writable}
use Rattle.records.specs.Widths.{item_width}
use Rattle.lookup.specs.LookUps.{look_up_refused, look_up_gives, look_up_answers}
use Rattle.lookup.specs.Values.{look_up_group, look_up_returns}
use Rattle.lookup.specs.Halves.{prepared_wants, CanFinish, finished_of, finished_items}
use Rattle.lookup.specs.declared.LookUp.{LookUp}

-- the answer of a bracket: `m` is what the match gave, and `r` the group or the refusal
module _ (s : List ℕ) (at : ℕ) (d : Option ℕ) (items : List ℕ) {m : Option Group} {r : Result Group Refusal}
    (q : m ≡ matched (judge s at d)) (o : r ≡ ok_or m NoGroupHere) where
  found : {g : Group} → r ≡ Ok g → matched (judge s at d) ≡ Some g
  found {g} e = go m (sym q) (sym o ∙ e)
    where
      go : (m : Option Group) → matched (judge s at d) ≡ m → ok_or m NoGroupHere ≡ Ok g → matched (judge s at d) ≡ Some g
      go (Some x) p e = let h : x ≡ g = cc in p ∙ ap Some h
      go None p e = absurd (cc)

  none : {e : Refusal} → r ≡ Err e → (e ≡ NoGroupHere) × (judge s at d ≡ NoGroup)
  none {e} h = go m (sym q) (sym o ∙ h)
    where
      go : (m : Option Group) → matched (judge s at d) ≡ m → ok_or m NoGroupHere ≡ Err e → (e ≡ NoGroupHere) × (judge s at d ≡ NoGroup)
      go (Some x) p h = absurd (cc)
      go None p h = (cc, unmatched_is s at d p)

  module _ {e : Refusal} (h : r ≡ Err e) where
    pub answer_none : Err e ≡ look_up_group (look_up_answers (judge s at d) items)
    unfolding look_up_group look_up_answers look_up_refused refusal_of
    answer_none = rw ((none h).0, (none h).1)

    pub items_none : items ≡ (look_up_answers (judge s at d) items).items
    unfolding look_up_answers look_up_refused
    items_none = rw (none h).1

  module _ {g : Group} (e : r ≡ Ok g) where
    abbrev is : (d ≡ Some g.close) × Cited s at g.close × (judge s at d ≡ Found (group_of s at g.close)) × (g.count ≡ length (items_of s at g.close))
    is = matched_is s at d g (found e)

    width : records_length (group_of s at g.close) ≡ item_width * g.count
    unfolding records_length group_of
    width = rw is.3 refl

    module _ (h : length items / 16 < g.count) where
      few : ltb (length items) (records_length (group_of s at g.close)) ≡ true
      few = lt-ltb (length items) (records_length (group_of s at g.close)) (omega (arith, width))

      pub answer_few : Err NoRoom ≡ look_up_group (look_up_answers (judge s at d) items)
      unfolding look_up_group look_up_answers look_up_refused refusal_of
      answer_few = rw (is.2, few)

      pub items_few : items ≡ (look_up_answers (judge s at d) items).items
      unfolding look_up_answers look_up_refused
      items_few = rw (is.2, few)

    module _ (h : g.count ≤ length items / 16) where
      enough : ltb (length items) (records_length (group_of s at g.close)) ≡ false
      enough = le-ltb (length items) (records_length (group_of s at g.close)) (omega (arith, width))

      pub answer_found : Ok g ≡ look_up_group (look_up_answers (judge s at d) items)
      unfolding look_up_group look_up_answers look_up_gives group_of
      answer_found = rw (is.2, enough, ← is.3)

      pub items_found : written (records_of (group_of s at g.close)) items ≡ (look_up_answers (judge s at d) items).items
      unfolding look_up_answers look_up_gives
      items_found = rw (is.2, enough)

      pub matched_writable : length s ≤ 65535 → Inside s at d → Writable s at g.close items
      matched_writable k i = record {
        short = k;
        after = at_after s at is.0 i;
        inside = at_inside s at is.0 i;
        good = is.1.good;
        room = omega (arith, width);
      }

pub ruleset answer_laws = (answer_none, items_none, answer_few, items_few, answer_found, items_found, matched_writable)

-- the second half of a look-up: `p` is what the first half prepared, and `r` the group or the refusal
module _ (s : List ℕ) (at note : ℕ) {p : Result Look Refusal} (index items : List ℕ) where
  module _ {e : Refusal} (q : p ≡ Err e) where
    pub group_refused : Err e ≡ (finished_of s at note p index items).group
    unfolding finished_of
    group_refused = rw q

    pub refused_items : items ≡ finished_items s at p index items
    unfolding finished_items
    refused_items = rw q

  module _ {l : Look} (q : p ≡ Ok l) where
    pub finish_short : CanFinish s at p → length s ≤ 65535
    finish_short h = (rw q at h).0

    pub finish_there : CanFinish s at p → at < length s
    finish_there h = (rw q at h).1

    module _ {d : Option ℕ} (k : d ≡ close_after s at index l) where
      pub finish_inside : CanFinish s at p → Inside s at d
      finish_inside h = rw k (after_inside s at index l (rw q at h).2)

      pub group_answered : {r : Result Group Refusal} → r ≡ look_up_group (look_up_answers (judge s at d) items) → r ≡ (finished_of s at note p index items).group
      unfolding finished_of look_up_returns
      group_answered r = rw (r, q, k)

      pub answered_items : (look_up_answers (judge s at d) items).items ≡ finished_items s at p index items
      unfolding finished_items
      answered_items = rw (q, k)

pub ruleset group_laws = (
  group_refused,
  refused_items,
  finish_short,
  finish_there,
  finish_inside,
  group_answered,
  answered_items,
)

-- the answer of a look-up, by its group and by whether a build was asked for
pub finished_with : (s : List ℕ) (at note : ℕ) (p : Result Look Refusal) (index items : List ℕ) {r : Result Group Refusal} {b : Bool} {n : ℕ}
    → r ≡ (finished_of s at note p index items).group → b ≡ prepared_wants p → n ≡ note_after b note
    → ◌≡◌ {A = LookUp} (record { group = r; note = n }) (finished_of s at note p index items)
unfolding finished_of look_up_returns prepared_wants note_after
finished_with s at note p index items g w k = rw (g, k, w) (go p)
  where
    go : (p : Result Look Refusal)
        → ◌≡◌ {A = LookUp} (record { group = (finished_of s at note p index items).group; note = note_after (prepared_wants p) note }) (finished_of s at note p index items)
    go (Ok l) = refl
    go (Err e) = refl
