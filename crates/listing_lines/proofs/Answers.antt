-- The answer of the annotation, and the listing by it,
-- in the form of the goals.
use Prim.Native.Nat.{ℕ, ◌*◌, ◌≤◌}
use native.Mathlib.Omega.{arith}
use mathlib.Core.Path.{◌≡◌, refl, ◌∙◌, ap}
use mathlib.Core.List.{List, [], ◌∷◌}
use mathlib.Core.Bool.{Bool, true, false, ◌&&◌}
use lib.ListN.{length, take, replicate, length-replicate}
use lib.Dec.{eqb, leb}
use borrow.Author.Tests.{leb-true, le-ltb}
use Rattle.std.specs.Prelude.{Result, Ok, Err, IfOk}
use Rattle.base.specs.Areas.{Wrote}
use Rattle.base.specs.declared.refusal.Refusal.{Refusal}
use Rattle.base.specs.Pick.{pick}
use Rattle.index.specs.Built.{blank}
use Rattle.base.proofs.Bools.{and_left, and_right}
use Rattle.item.specs.Group.{Group}
use Rattle.lookup.specs.Refusals.{too_few}
use Rattle.sweep.specs.Sweep.{sweep_of}
use Rattle.sweep.proofs.Laws.{group_records_length}
use Rattle.annotation.specs.declared.answer.Annotation.{Annotation}
use Rattle.annotation.specs.declared.answer.Counts.{Counts}
use Rattle.annotation.specs.Values.{count_values, annotation_values, annotation_numbers}
use Rattle.annotation.specs.Content.{Areas, placed_from, placed_of, content_of, areas}
use Rattle.annotation.specs.Call.{Annotated, AnnotateRan, annotate_refused, room_for, zero_filled, annotate_gives, answer_of, annotate_plain, annotate_run}
use Rattle.annotation.specs.Refusal.{annotate_refusal}
use Rattle.annotation.proofs.Truth.{annotate_true}
use Rattle.line_writers.specs.Lines.{count_line, answer_lines}
use Rattle.standing.proofs.Swept.{placed_length}
use Rattle.listing_lines.specs.Listing.{listing_areas, listing_answer, listing_of}
use Rattle.line_writers.specs.Writes.{answer_by}
use Rattle.listing_lines.specs.Ready.{Ready}
use Rattle.records.specs.Widths.{group_width}

-- the call as run, and the definition ------------------------------------------------------------------------------------------------

-- "9 index or bracket records fewer than text bytes" is asked of the lengths alone
refusal_same : (text : List ℕ) (n m : ℕ) → length text ≤ n → length text ≤ m
    → annotate_refusal text 0 [] n m ≡ annotate_refusal text 0 [] (length text) (length text)
unfolding annotate_refusal too_few
refusal_same text n m h g =
    rw (le-ltb n (length text) h, le-ltb m (length text) g, le-ltb (length text) (length text) (omega arith)) refl

plain_same : (text : List ℕ) (n m : ℕ) (given : Areas) → length text ≤ n → length text ≤ m
    → annotate_plain text 0 [] n m given ≡ annotate_plain text 0 [] (length text) (length text) given
unfolding annotate_plain
plain_same text n m given h g = rw (refusal_same text n m h g) refl

-- the answer of a call that is lent the areas of the definition
module _ (text index items groups references labels out : List ℕ) (z : Ready text index items groups references labels out) where
  abbrev ran : AnnotateRan
  ran = annotate_run text 0 [] 0 index (replicate 65535 blank) (areas items groups references labels)

  answer_is : ran.answer ≡ listing_answer text
  unfolding listing_answer listing_areas
  answer_is =
      let l : length index ≡ length text = ap length z.index_area ∙ length-replicate (length text) 0 in
      let m : length (replicate 65535 blank) ≡ 65535 = length-replicate 65535 blank in
      annotate_true text 0 [] 0 index (replicate 65535 blank) (areas items groups references labels) (λ e. absurd (omega (arith, e)))
      ∙ plain_same text (length index) (length (replicate 65535 blank)) (areas items groups references labels) (omega arith) (omega (arith, m, z.short))
      ∙ rw (z.item_area, z.group_area, z.reference_area, z.label_area) refl

-- how many groups there can be: as many as their area has room for
pub content_groups : (text : List ℕ) (mode : ℕ) (all : List Group) (pool : List ℕ) → length (content_of text mode all pool).groups ≡ group_width * length all
unfolding content_of placed_of
content_groups text mode all pool =
    group_records_length 0 (placed_from text all pool false 0 all) ∙ ap (λ (n : ℕ). group_width * n) (placed_length _ text false 0 all)

room_groups : (content given : Areas) → room_for content given ≡ true → length content.groups ≤ length given.groups
unfolding room_for
room_groups content given h =
    leb-true _ _
    (and_right (leb (length content.items) (length given.items)) _
    (and_left (leb (length content.items) (length given.items) && leb (length content.groups) (length given.groups)) _
    (and_left _ _ (and_left _ _ h))))

answer_groups : (all : List Group) (content given : Areas) → length content.groups ≡ group_width * length all
    → group_width * (answer_of all content given).groups ≤ length given.groups
unfolding answer_of annotate_gives
answer_groups all content given e = go (room_for content given) refl
  where
    go : (t : Bool) → room_for content given ≡ t
        → group_width * (pick t (annotate_gives all content given) (annotate_refused 10 (zero_filled given))).groups ≤ length given.groups
    go true q = let h = room_groups content given q in omega arith
    go false q = omega arith

pub groups_few : (text : List ℕ) → (listing_answer text).groups ≤ length text
unfolding listing_answer annotate_plain listing_areas
groups_few text = go (eqb (annotate_refusal text 0 [] (length text) (length text)) 0)
  where
    given : Areas
    given = listing_areas (length text)

    content : Areas
    content = content_of text 0 (sweep_of text) []

    go : (t : Bool) → (pick t (answer_of (sweep_of text) (content_of text 0 (sweep_of text) []) (listing_areas (length text)))
        (annotate_refused (annotate_refusal text 0 [] (length text) (length text)) (listing_areas (length text)))).groups ≤ length text
    go true =
        let h = answer_groups (sweep_of text) (content_of text 0 (sweep_of text) []) (listing_areas (length text)) (content_groups text 0 (sweep_of text) []) in
        let l : length (listing_areas (length text)).groups ≡ group_width * length text = length-replicate (group_width * length text) 0 in
        omega arith
    go false = omega arith

-- the listing by the counts and the areas that the call left -------------------------------------------------------------------------

-- the listing asks only for the number, the counts and two areas of an answer
listed_same : (text : List ℕ) (c a : Annotated) → c.number ≡ a.number → c.groups ≡ a.groups → c.items ≡ a.items → c.sources ≡ a.sources
    → c.areas.items ≡ a.areas.items → c.areas.groups ≡ a.areas.groups → answer_lines text c ≡ answer_lines text a
unfolding answer_lines count_line
listed_same text c a e₀ e₁ e₂ e₃ e₄ e₅ = rw (e₀, e₁, e₂, e₃, e₄, e₅) refl

-- what the call returned has the values of its answer
counted : (r : Result Counts Refusal) (items groups : List ℕ) (note : ℕ)
    → (answer_by r items groups).number ∷ (answer_by r items groups).groups ∷ (answer_by r items groups).items ∷ (answer_by r items groups).sources ∷ []
    ≡ take 4 (count_values r note)
counted (Ok c) items groups note = refl
counted (Err e) items groups note = refl

areas_by : (r : Result Counts Refusal) (items groups : List ℕ) → (answer_by r items groups).areas ≡ areas items groups [] []
areas_by (Ok c) items groups = refl
areas_by (Err e) items groups = refl

few_by : (r : Result Counts Refusal) (items groups : List ℕ) → (answer_by r items groups).groups ≤ 65535 → IfOk r (λ c. c.groups ≤ 65535)
few_by (Ok c) items groups h = h
few_by (Err e) items groups h = tt

listing_is : (text : List ℕ) → length text ≤ 4096 → answer_lines text (listing_answer text) ≡ listing_of text
unfolding listing_of
listing_is text h = rw (le-ltb 4096 (length text) h) refl

module _ (text index items groups references labels out : List ℕ) (z : Ready text index items groups references labels out)
    (answer : Annotation) (items' groups' : List ℕ)
    (told : annotation_values answer
    ≡ annotation_numbers (annotate_run text 0 [] 0 index (replicate 65535 blank) (areas items groups references labels)))
    (item_area : items' ≡ (annotate_run text 0 [] 0 index (replicate 65535 blank) (areas items groups references labels)).answer.areas.items)
    (group_area : groups' ≡ (annotate_run text 0 [] 0 index (replicate 65535 blank) (areas items groups references labels)).answer.areas.groups) where
  abbrev gave : Annotated
  gave = (ran text index items groups references labels out z).answer

  abbrev by : Annotated
  by = answer_by answer.counts items' groups'

  numbers : by.number ∷ by.groups ∷ by.items ∷ by.sources ∷ [] ≡ gave.number ∷ gave.groups ∷ gave.items ∷ gave.sources ∷ []
  unfolding annotation_values annotation_numbers
  numbers = counted answer.counts items' groups' answer.note ∙ ap (take 4) told

  gives : answer_lines text by ≡ listing_of text
  gives =
      let n = numbers in
      let e = areas_by answer.counts items' groups' in
      listed_same text by gave (cc) (cc) (cc) (cc) (rw e item_area) (rw e group_area)
      ∙ ap (answer_lines text) (answer_is text index items groups references labels out z)
      ∙ listing_is text z.short

  pub in_groups : IfOk answer.counts (λ c. c.groups ≤ 65535)
  in_groups =
      let n = numbers in
      let e : by.groups ≡ gave.groups = cc in
      let f : gave.groups ≡ (listing_answer text).groups = ap (λ (a : Annotated). a.groups) (answer_is text index items groups references labels out z) in
      let l = groups_few text in
      few_by answer.counts items' groups' (omega (arith, z.short))

  pub in_room : length (answer_lines text (answer_by answer.counts items' groups')) ≤ length out
  in_room = rw gives z.room

  pub in_listed : {out' : List ℕ} {r : ℕ} → Wrote (answer_lines text (answer_by answer.counts items' groups')) out out' r → Wrote (listing_of text) out out' r
  in_listed p = rw gives at p

pub ruleset in_laws = (in_groups, in_room, in_listed)
