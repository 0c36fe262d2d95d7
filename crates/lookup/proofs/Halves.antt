-- The two halves of a look-up together, with the build between them:
-- the call as run.
use Prim.Native.Nat.{ℕ, ◌≤◌}
use native.Mathlib.Omega.{arith}
use mathlib.Core.Path.{◌≡◌, refl, sym, ◌∙◌, ap}
use mathlib.Core.List.{List, [], ◌∷◌}
use mathlib.Core.Bool.{Bool, true, false, ◌&&◌}
use lib.ListN.{length}
use lib.Dec.{eqb, ltb}
use borrow.Author.Tests.{ne_eqb, eqb-true, eqb-false}
use Rattle.base.specs.Pick.{pick}
use Rattle.std.specs.Prelude.{Option, Result, Ok, Err}
use Rattle.base.specs.Refusals.{refusal_of}
use Rattle.base.specs.declared.refusal.Refusal.{Refusal}
use Rattle.base.proofs.Refusals.{number_back}
use Rattle.base.proofs.Bools.{and_left}
use Rattle.index.specs.declared.Bracket.{Bracket}
use Rattle.index.specs.Building.{Enough}
use Rattle.resolve.specs.declared.Look.{Look}
use Rattle.resolve.specs.Groups.{GroupAnswer, Found, NoGroup, judge}
use Rattle.records.specs.ItemRecords.{records_length}
use Rattle.resolve.specs.Resolve.{look_of, wants_build, group_as_run, note_after, index_after, records_after}
use Rattle.lookup.specs.Refusals.{look_up_refusal}
use Rattle.lookup.specs.LookUps.{LookedUp, look_up_refused, look_up_gives, look_up_answers, looked_up, look_up_builds, ran_with, look_up_run}
use Rattle.lookup.specs.Values.{look_up_values, look_up_numbers, look_up_group, look_up_returns, look_up_answer}
use Rattle.lookup.specs.Halves.{prepared_of, prepared_wants, CanFinish, finished_of, finished_items}
use Rattle.resolve.proofs.Laws.{look_inside}
use Rattle.resolve.proofs.Runs.{look_wants, look_close}
use Rattle.lookup.proofs.RefusalLaws.{unrefused, look_up_refusal_low}

-- the call as run ------------------------------------------------------------------------------------------------------------------

-- the first half gives what the second asks for
pub can_finish : (s : List ℕ) (at note : ℕ) (index : List ℕ) (m : ℕ) → CanFinish s at (prepared_of s at note index m)
unfolding prepared_of
can_finish s at note index m = go (eqb (look_up_refusal s at (length index) m) 0) refl
  where
    go : (t : Bool) → eqb (look_up_refusal s at (length index) m) 0 ≡ t
        → CanFinish s at (pick t (Ok (look_of s at note index)) (Err (refusal_of (look_up_refusal s at (length index) m))))
    go true q = let u = unrefused s at (length index) m (eqb-true _ 0 q) in (u.enough.short, u.there, look_inside s at note index)
    go false q = tt

module _ (s : List ℕ) (at note : ℕ) (index : List ℕ) (m : ℕ) where
  pub prepared_builds : prepared_wants (prepared_of s at note index m) ≡ look_up_builds s at note (length index) m
  unfolding prepared_of prepared_wants look_up_builds
  prepared_builds = go (eqb (look_up_refusal s at (length index) m) 0)
    where
      go : (t : Bool) → prepared_wants (pick t (Ok (look_of s at note index)) (Err (refusal_of (look_up_refusal s at (length index) m)))) ≡ t && wants_build s at note
      go true = look_wants s at note index
      go false = refl

  -- what the build asks for
  module _ (w : prepared_wants (prepared_of s at note index m) ≡ true) where
    pub wanted_enough : Enough s (length index) m
    unfolding look_up_builds
    wanted_enough =
        (unrefused s at (length index) m (eqb-true _ 0 (and_left (eqb (look_up_refusal s at (length index) m) 0) _ (sym prepared_builds ∙ w)))).enough

-- the numbers of an answer: of one that the bracket gives,
answered_values : (g : GroupAnswer) (note : ℕ) (items : List ℕ)
    → look_up_values (look_up_returns (look_up_answers g items) note)
    ≡ (look_up_answers g items).number ∷ (look_up_answers g items).close ∷ (look_up_answers g items).count ∷ note ∷ []
unfolding look_up_returns look_up_group look_up_values look_up_answers look_up_refused look_up_gives refusal_of
answered_values (Found g) note items = go (ltb (length items) (records_length g))
  where
    go : (t : Bool) → look_up_values (look_up_returns (pick t (look_up_refused 10 items) (look_up_gives g items)) note)
        ≡ (pick t (look_up_refused 10 items) (look_up_gives g items)).number
        ∷ (pick t (look_up_refused 10 items) (look_up_gives g items)).close
        ∷ (pick t (look_up_refused 10 items) (look_up_gives g items)).count ∷ note ∷ []
    go true = refl
    go false = refl
answered_values NoGroup note items = refl

-- of a refusal before it,
refused_values : (n note : ℕ) (items : List ℕ) → n ≤ 10 → (n ≡ 0 → ⊥) → look_up_values (look_up_returns (look_up_refused n items) note) ≡ n ∷ 0 ∷ 0 ∷ note ∷ []
unfolding look_up_returns look_up_group look_up_values look_up_refused
refused_values n note items h z = rw (ne_eqb n 0 z, number_back n z h)

-- and of the call as run
run_values : (s : List ℕ) (at note : ℕ) (index : List ℕ) (records : List Bracket) (items : List ℕ)
    → look_up_values (look_up_answer (look_up_run s at note index records items)) ≡ look_up_numbers (look_up_run s at note index records items)
unfolding look_up_answer look_up_run ran_with looked_up look_up_numbers look_up_refused
run_values s at note index records items = go (eqb r 0) refl
  where
    r : ℕ
    r = look_up_refusal s at (length index) (length records)

    n : ℕ
    n = note_after (look_up_builds s at note (length index) (length records)) note

    a : Bool → LookedUp
    a t = pick t (look_up_answers (group_as_run s at note index) items) (look_up_refused r items)

    go : (t : Bool) → eqb r 0 ≡ t → look_up_values (look_up_returns (a t) n) ≡ (a t).number ∷ (a t).close ∷ (a t).count ∷ n ∷ []
    go true q = answered_values (group_as_run s at note index) n items
    go false q = refused_values r n items (let h = look_up_refusal_low s at (length index) (length records) in omega arith) (eqb-false r 0 q)

-- `w` is whether the index was built, and `after` what it is then
module _ (s : List ℕ) (at note : ℕ) (index : List ℕ) (records : List Bracket) (items : List ℕ) {w : Bool} {after : List ℕ}
    (q : w ≡ prepared_wants (prepared_of s at note index (length records))) (e : after ≡ index_after w s index) where
  abbrev r : ℕ
  r = look_up_refusal s at (length index) (length records)

  abbrev P : Bool → Result Look Refusal
  P t = pick t (Ok (look_of s at note index)) (Err (refusal_of r))

  pub finished_answer
      : finished_of s at note (prepared_of s at note index (length records)) after items ≡ look_up_answer (look_up_run s at note index records items)
  unfolding prepared_of prepared_wants finished_of look_up_answer look_up_returns look_up_group look_up_run ran_with looked_up group_as_run look_up_builds look_up_refused note_after index_after
  finished_answer = rw (e, q) (go (eqb (look_up_refusal s at (length index) (length records)) 0) refl)
    where
      go : (t : Bool) → eqb r 0 ≡ t → finished_of s at note (P t) (index_after (prepared_wants (P t)) s index) items
          ≡ look_up_returns (pick t (look_up_answers (group_as_run s at note index) items) (look_up_refused r items)) (note_after (t && wants_build s at note) note)
      go true z = rw (look_close s at note index, look_wants s at note index)
      go false z = rw z

  pub finished_values
      : look_up_values (finished_of s at note (prepared_of s at note index (length records)) after items)
      ≡ look_up_numbers (look_up_run s at note index records items)
  finished_values = ap look_up_values finished_answer ∙ run_values s at note index records items

  pub finished_items_lem
      : finished_items s at (prepared_of s at note index (length records)) after items ≡ (look_up_run s at note index records items).answer.items
  unfolding prepared_of prepared_wants finished_items look_up_run ran_with looked_up group_as_run look_up_refused index_after
  finished_items_lem = rw (e, q) (go (eqb (look_up_refusal s at (length index) (length records)) 0))
    where
      go : (t : Bool) → finished_items s at (P t) (index_after (prepared_wants (P t)) s index) items
          ≡ (pick t (look_up_answers (group_as_run s at note index) items) (look_up_refused r items)).items
      go true = ap (λ (c : Option ℕ). (look_up_answers (judge s at c) items).items) (look_close s at note index)
      go false = refl

  -- the index and the bracket records
  pub ran_index : after ≡ (look_up_run s at note index records items).index
  unfolding look_up_run ran_with
  ran_index = e ∙ rw (q, prepared_builds s at note index (length records))

  pub ran_records : {rs : List Bracket} → rs ≡ records_after w s records → rs ≡ (look_up_run s at note index records items).records
  unfolding look_up_run ran_with
  ran_records o = o ∙ rw (q, prepared_builds s at note index (length records))
