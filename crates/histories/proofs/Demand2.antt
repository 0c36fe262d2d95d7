-- THEOREM `EveryGroup`: demand 2,
-- for the definitions that the contracts of the public calls cite.
use Prim.Native.Nat.{ℕ, ◌≤◌, ◌<◌}
use native.Mathlib.Omega.{arith}
use mathlib.Core.Path.{◌≡◌, refl, sym, ◌∙◌, subst}
use mathlib.Core.List.{List}
use mathlib.Core.Bool.{Bool, true, false, ◌||◌, not, true≢false}
use lib.ListN.{length}
use lib.Dec.{eqb, ltb}
use borrow.Author.Tests.{eq-eqb, eqb-true, lt-ltb, le-ltb}
use Rattle.base.specs.Pick.{pick}
use Rattle.base.specs.Lists.{is_at}
use Rattle.base.proofs.Alls.{each_map}
use Rattle.utf8.specs.Utf8.{too_long, utf8}
use Rattle.text.specs.Escape.{escaped_at}
use Rattle.utf8.specs.Refusal.{after_text}
use Rattle.resolve.proofs.Parts.{group_in_order}
use Rattle.resolve.specs.Groups.{GroupAnswer, Found, NoGroup, group_at}
use Rattle.item.specs.Group.{Group}
use Rattle.records.specs.ItemRecords.{records_length}
use Rattle.lookup.specs.Refusals.{too_few, look_up_refusal}
use Rattle.lookup.specs.LookUps.{LookedUp, look_up_gives, look_up_refused, look_up_answers, looked_up, look_up_plain}
use Rattle.lookup.proofs.RefusalLaws.{unrefused}
use Rattle.lookup.proofs.LooksUp.{look_up_true}
use Rattle.annotation.specs.Content.{Areas}
use Rattle.annotation.specs.Call.{Annotated, annotate_refused, annotate_gives, answer_of, annotate_plain, room_for, zero_filled}
use Rattle.annotation.specs.Refusal.{annotate_refusal}
use Rattle.annotation.proofs.Truth.{annotate_true}
use Rattle.sweep.specs.Sweep.{sweep_of}
use Rattle.histories.specs.EveryGroup.{Admits, LookUpFinds, AnnotationFinds, said, EveryGroup}
use Rattle.histories.proofs.AllFound.{all_found}
use Rattle.histories.proofs.SaidSo.{says}

-- 5 is none of the numbers that come before a bracket is looked up
not_five : (s : List ℕ) (at n m : ℕ) → look_up_refusal s at n m ≡ 5 → ⊥
unfolding look_up_refusal after_text too_few
not_five s at n m q = go (too_long s) (utf8 s) (is_at s at 91) (escaped_at s at) (ltb n (length s) || ltb m (length s)) q
  where
    go : (a b c d e : Bool) → pick {A = ℕ} a 1 (pick b (pick (not c) 3 (pick d 4 (pick e 9 0))) 2) ≡ 5 → ⊥
    go true b c d e q = omega (arith, q)
    go false false c d e q = omega (arith, q)
    go false true false d e q = omega (arith, q)
    go false true true true e q = omega (arith, q)
    go false true true false true q = omega (arith, q)
    go false true true false false q = omega (arith, q)

-- what a bracket gives, once it is looked up
module _ (text : List ℕ) (at n m : ℕ) (items : List ℕ) where
  abbrev answer : LookedUp
  answer = look_up_plain text at n m items

  unrefused_answer : look_up_refusal text at n m ≡ 0 → answer ≡ look_up_answers (group_at text at) items
  unfolding look_up_plain looked_up
  unrefused_answer z = rw (eq-eqb (look_up_refusal text at n m) 0 z)

  gives : (g : Group) → look_up_refusal text at n m ≡ 0 → group_at text at ≡ Found g → records_length g ≤ length items → answer ≡ look_up_gives g items
  unfolding look_up_answers
  gives g z e r = unrefused_answer z ∙ rw (e, le-ltb (length items) (records_length g) r)

  short : (g : Group) → look_up_refusal text at n m ≡ 0 → group_at text at ≡ Found g → length items < records_length g → answer ≡ look_up_refused 10 items
  unfolding look_up_answers
  short g z e r = unrefused_answer z ∙ rw (e, lt-ltb (length items) (records_length g) r)

  -- no group: 5
  lacks : look_up_refusal text at n m ≡ 0 → ((g : Group) → Admits text at g → ⊥) → answer ≡ look_up_refused 5 items
  unfolding look_up_answers
  lacks z none = unrefused_answer z ∙ go (group_at text at) refl
    where
      go : (a : GroupAnswer) → group_at text at ≡ a → look_up_answers a items ≡ look_up_refused 5 items
      go (Found g) e = absurd (none g ((unrefused text at n m z).opens, e))
      go NoGroup e = refl

  -- by the number of the answer
  gives_only : answer.number ≡ 0 → (g : Group) × Admits text at g × (answer ≡ look_up_gives g items)
  unfolding look_up_plain looked_up look_up_answers look_up_refused look_up_gives
  gives_only = go (eqb (look_up_refusal text at n m) 0) refl (group_at text at) refl
    where
      room : (g : Group) → look_up_refusal text at n m ≡ 0 → group_at text at ≡ Found g → (b : Bool)
          → (pick b (look_up_refused 10 items) (look_up_gives g items)).number ≡ 0
          → (x : Group) × Admits text at x × (pick b (look_up_refused 10 items) (look_up_gives g items) ≡ look_up_gives x items)
      room g z e true h = absurd (omega (arith, h))
      room g z e false h = (g, ((unrefused text at n m z).opens, e), refl)

      go : (b : Bool) → eqb (look_up_refusal text at n m) 0 ≡ b → (a : GroupAnswer) → group_at text at ≡ a
          → (pick b (look_up_answers a items) (look_up_refused (look_up_refusal text at n m) items)).number ≡ 0
          → (g : Group) × Admits text at g × (pick b (look_up_answers a items) (look_up_refused (look_up_refusal text at n m) items) ≡ look_up_gives g items)
      go true q (Found g) e h = room g (eqb-true _ 0 q) e (ltb (length items) (records_length g)) h
      go true q NoGroup e h = absurd (omega (arith, h))
      go false q a e h = absurd (true≢false (sym (eq-eqb (look_up_refusal text at n m) 0 h) ∙ q))

  lacks_only : answer.number ≡ 5 → (g : Group) → Admits text at g → ⊥
  unfolding look_up_plain looked_up look_up_answers look_up_refused look_up_gives
  lacks_only h g a =
      go (eqb (look_up_refusal text at n m) 0) (ltb (length items) (records_length g))
      (subst (λ (x : GroupAnswer). (looked_up (look_up_refusal text at n m) x items).number ≡ 5) a.1 h)
    where
      go : (b c : Bool) → (pick b (pick c (look_up_refused 10 items) (look_up_gives g items)) (look_up_refused (look_up_refusal text at n m) items)).number ≡ 5 → ⊥
      go true true h = omega (arith, h)
      go true false h = omega (arith, h)
      go false c h = not_five text at n m h

  plain_finds : LookUpFinds text at n m items answer
  plain_finds = record {
    found = λ z g a r. gives g z a.1 r;
    no_room = λ z g a r. short g z a.1 r;
    none = lacks;
    found_only = gives_only;
    none_only = lacks_only;
  }

module _ (text : List ℕ) (mode : ℕ) (pool : List ℕ) (n m : ℕ) (areas : Areas) where
  plain_says : AnnotationFinds text mode pool n m areas (annotate_plain text mode pool n m areas)
  unfolding annotate_plain answer_of
  plain_says = record {
    found = λ z r. rw (eq-eqb (annotate_refusal text mode pool n m) 0 z, r) refl;
    no_room = λ z r. rw (eq-eqb (annotate_refusal text mode pool n m) 0 z, r) refl;
    found_only = go (eqb (annotate_refusal text mode pool n m) 0) refl (room_for (said text mode pool) areas);
  }
    where
      accepted : Annotated
      accepted = annotate_gives (sweep_of text) (said text mode pool) areas

      go : (b : Bool) → eqb (annotate_refusal text mode pool n m) 0 ≡ b → (r : Bool)
          → (pick b (pick r accepted (annotate_refused 10 (zero_filled areas))) (annotate_refused (annotate_refusal text mode pool n m) areas)).number ≡ 0
          → pick b (pick r accepted (annotate_refused 10 (zero_filled areas))) (annotate_refused (annotate_refusal text mode pool n m) areas) ≡ accepted
      go true q true h = refl
      go true q false h = absurd (omega (arith, h))
      go false q r h = absurd (true≢false (sym (eq-eqb (annotate_refusal text mode pool n m) 0 h) ∙ q))

-- a group closes after its bracket
closes_after : (text : List ℕ) (g : Group) → Admits text g.at g → g.at ≤ g.close
closes_after text g a = omega (arith, (group_in_order text g.at g a.1).1)

pub demand_2 : EveryGroup
demand_2 text = (
  all_found text,
  λ mode pool. says text mode (sweep_of text) pool
      (each_map (λ (g : Group). Admits text g.at g) (λ (g : Group). g.at ≤ g.close) (sweep_of text) (closes_after text) (all_found text).admitted)
      (all_found text).apart,
  λ index note records left. record {
    look_ups = λ at items.
        subst (LookUpFinds text at (length index) (length records) items) (sym (look_up_true text at note index records items left))
        (plain_finds text at (length index) (length records) items);
    annotations = λ mode pool areas.
        subst (AnnotationFinds text mode pool (length index) (length records) areas) (sym (annotate_true text mode pool note index records areas left))
        (plain_says text mode pool (length index) (length records) areas);
  },
)
