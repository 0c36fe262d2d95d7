-- No listing is longer than 150,000 bytes. A line has five numbers of 20 digits at most, six bytes between and after them, and a key; there are
-- at most a third as many lines as the text has bytes, and all keys together are no longer than the text.
use Prim.Native.Nat.{ℕ, zero, suc, ◌+◌, ◌-◌, ◌*◌, ◌≤◌}
use native.Mathlib.Omega.{arith}
use mathlib.Core.Path.{◌≡◌, refl, ◌∙◌, subst}
use mathlib.Core.List.{List, [], ◌∷◌, ◌++◌, flat_map, append_assoc}
use mathlib.Core.Bool.{Bool, true, false, ◌&&◌}
use lib.ListN.{length, get_or, take, drop, length-append, length-take}
use lib.Dec.{eqb, leb, ltb}
use lib.Seq.{get_or-drop, drop-drop}
use borrow.Author.Tests.{ltb-false}
use Rattle.base.specs.Pick.{pick}
use Rattle.base.specs.Lists.{part, written}
use Rattle.base.specs.Ascii.{ascii}
use Rattle.item.specs.declared.Item.{Item}
use Rattle.item.specs.Group.{Group}
use Rattle.records.specs.ItemRecords.{item_record, unnumbered_record, records_in, records_of, records_length}
use Rattle.records.proofs.RecordLaws.{record_length, records_length_lem}
use Rattle.decimal.proofs.Laws.{decimal_short}
use Rattle.sweep.specs.Sweep.{lent_of, sweep_of, sweep_run}
use Rattle.standing.specs.GroupRecords.{Placed, group_record, group_records, item_count, item_records}
use Rattle.standing.proofs.ItemSizes.{weight}
use Rattle.standing.proofs.Swept.{groups_of, placed_groups, placed_length}
use Rattle.sweep.proofs.Sizes.{weights}
use Rattle.sweep.proofs.Sweeps.{sweep_same}
use Rattle.records.specs.Fields.{field_at, item_field}
use Rattle.uses.proofs.Fields.{item_field_lem, SameItems}
use Rattle.annotation.specs.Content.{Areas, placed_from, placed_of, tally_of, content_of}
use Rattle.annotation.specs.Call.{Annotated, annotate_refused, room_for, content_written, zero_filled, annotate_gives, answer_of, annotate_plain}
use Rattle.annotation.specs.Refusal.{annotate_refusal}
use Rattle.annotation.specs.Steps.{Fits}
use Rattle.annotation.proofs.Found.{swept_fits}
use Rattle.annotation.proofs.Passes.{tally_agrees}
use Rattle.line_writers.specs.Lines.{group_part, item_part, item_line, item_lines, lines_of, group_lines, count_line, refused_line, answer_lines}
use Rattle.listing_lines.specs.Listing.{listing_areas, listing_answer, listing_of}
use Rattle.listing_lines.proofs.KeyBytes.{key_weight, sweep_keys}
use Rattle.records.specs.Widths.{item_key_length, item_width}

-- lines ------------------------------------------------------------------------------------------------------------------------------

part_short : (s : List ℕ) (a n : ℕ) → length (part s a (a + n)) ≤ n
unfolding part
part_short s a n = go (leb a (a + n) && leb (a + n) (length s))
  where
    go : (t : Bool) → length (pick t (take (a + n - a) (drop a s)) []) ≤ n
    go true = rw length-take (omega arith)
    go false = omega arith

line_short : (text group item : List ℕ) → length (item_line text group item) ≤ 106 + get_or item 3 0
unfolding item_line group_part item_part ascii
line_short text group item =
    let p = part_short text (get_or item 2 0) (get_or item 3 0) in
    let a = decimal_short (get_or group 0 0) in
    let b = decimal_short (get_or group 1 0) in
    let c = decimal_short (get_or group 4 0) in
    let d = decimal_short (get_or item 10 0) in
    let e = decimal_short (get_or item 12 0) in
    simp length-append (omega arith)

-- the lengths of the keys of the `k` item records from record `n` on
unfoldable key_sum : List ℕ → ℕ → ℕ → ℕ
key_sum items n zero = 0
key_sum items n (suc k) = item_field items n item_key_length + key_sum items (n + 1) k

sum_add : (items : List ℕ) (n a b : ℕ) → key_sum items n (a + b) ≡ key_sum items n a + key_sum items (n + a) b
unfolding key_sum
sum_add items n zero b =
    let p : 0 + b ≡ b = omega arith in
    let q : n + 0 ≡ n = omega arith in
    rw (p, q) (omega arith)
sum_add items n (suc a) b =
    let p : suc a + b ≡ suc (a + b) = omega arith in
    let q : n + suc a ≡ n + 1 + a = omega arith in
    let h = sum_add items (n + 1) a b in
    rw (p, q) (omega arith)

sum_same : (items others : List ℕ) → SameItems items others → (n k : ℕ) → key_sum items n k ≡ key_sum others n k
unfolding key_sum
sum_same items others h n zero = refl
sum_same items others h n (suc k) = let p = h n 3 (omega arith) in let q = sum_same items others h (n + 1) k in omega arith

lines_short : (k : ℕ) (text group items : List ℕ) (n : ℕ) → length (item_lines k text group (drop (item_width * n) items)) ≤ 106 * k + key_sum items n k
unfolding item_lines key_sum field_at
lines_short zero text group items n = omega arith
lines_short (suc k) text group items n =
    let p : item_width * n + item_width ≡ item_width * (n + 1) = omega arith in
    let h = lines_short k text group items (n + 1) in
    let l = line_short text group (drop (item_width * n) items) in
    let f = get_or-drop (item_width * n) items 3 0 in
    rw (length-append, drop-drop item_width (item_width * n) items, p) (omega arith)

groups_short : (ps : List Placed) (text : List ℕ) (n : ℕ) (rest items : List ℕ)
    → length (group_lines (length ps) text (group_records n ps ++ rest) items) ≤ 106 * item_count (groups_of ps) + key_sum items n (item_count (groups_of ps))
unfolding group_lines lines_of group_records group_record item_count
groups_short [] text n rest items = omega arith
groups_short (p ∷ ps) text n rest items =
    let k : ℕ = length p.group.items in
    let a = lines_short k text ((group_record n p ++ group_records (n + k) ps) ++ rest) items n in
    let b = groups_short ps text (n + k) rest items in
    let s = sum_add items n k (item_count (groups_of ps)) in
    rw length-append (omega arith)

-- keys -------------------------------------------------------------------------------------------------------------------------------

key_there : (it : Item) (more rest : List ℕ) → get_or ((unnumbered_record it ++ more) ++ rest) 3 0 ≡ it.key.len
unfolding unnumbered_record item_record
key_there it more rest = refl

record_sum : (is : List Item) (before rest : List ℕ) (n : ℕ) → length before ≡ item_width * n
    → key_sum (before ++ (records_in is ++ rest)) n (length is) + 2 * length is ≡ weight key_weight is
unfolding key_sum flat_map weight
record_sum [] before rest n e = refl
record_sum (i ∷ is) before rest n e =
    let l : length (before ++ unnumbered_record i) ≡ item_width * (n + 1) = let r = record_length i in rw length-append (omega arith) in
    let h = record_sum is (before ++ unnumbered_record i) rest (n + 1) l in
    let q : (before ++ unnumbered_record i) ++ (records_in is ++ rest) ≡ before ++ ((unnumbered_record i ++ records_in is) ++ rest)
    = simp append_assoc refl in
    let f = item_field_lem before ((unnumbered_record i ++ records_in is) ++ rest) n 3 e ∙ key_there i (records_in is) rest in
    let g = rw q at h in
    omega arith

zero_sum : (items : List ℕ) (n : ℕ) → key_sum items n 0 + 2 * 0 ≡ 0
unfolding key_sum
zero_sum items n = refl

records_sum : (gs : List Group) (before rest : List ℕ) (n : ℕ) → length before ≡ item_width * n
    → key_sum (before ++ (item_records gs ++ rest)) n (item_count gs) + 2 * item_count gs ≡ weights key_weight gs
unfolding flat_map item_count weights records_of records_length
records_sum [] before rest n e = zero_sum (before ++ rest) n
records_sum (g ∷ gs) before rest n e =
    let l : length (before ++ records_in g.items) ≡ item_width * (n + length g.items) =
    let r = records_length_lem g in rw length-append (omega arith) in
    let h = records_sum gs (before ++ records_in g.items) rest (n + length g.items) l in
    let here = record_sum g.items before (item_records gs ++ rest) n e in
    let q : (before ++ records_in g.items) ++ (item_records gs ++ rest)
    ≡ before ++ ((records_in g.items ++ item_records gs) ++ rest) = simp append_assoc refl in
    let p : before ++ (records_in g.items ++ (item_records gs ++ rest))
    ≡ before ++ ((records_in g.items ++ item_records gs) ++ rest) = simp append_assoc refl in
    let s = sum_add (before ++ ((records_in g.items ++ item_records gs) ++ rest)) n (length g.items) (item_count gs) in
    let h' = rw q at h in
    let here' = rw p at here in
    omega arith

-- the listing ------------------------------------------------------------------------------------------------------------------------

swept_fits_plain : (text : List ℕ) → length text ≤ 65535 → Fits text (sweep_of text)
unfolding sweep_of sweep_run
swept_fits_plain text h =
    subst (λ (gs : List Group). Fits text gs)
    (sweep_same text (length text) 0 [] (lent_of 0 text []) (λ e. absurd (omega (arith, e))) (omega arith))
    (swept_fits text (lent_of 0 text []) h)

-- the item records of an annotation hold the keys of the sweep
module _ (text rest : List ℕ) (h : length text ≤ 65535) where
  keys_there : key_sum ((tally_of text 0 (sweep_of text) []).records ++ rest) 0 (item_count (sweep_of text)) + 2 * item_count (sweep_of text) ≤ length text
  keys_there =
      let a = tally_agrees text 0 (sweep_of text) [] rest [] (swept_fits_plain text h) in
      let e = records_sum (sweep_of text) [] rest 0 refl in
      let s = sum_same _ _ a.same_items 0 (item_count (sweep_of text)) in
      let k = sweep_keys text in
      rw (← a.items) (omega arith)

  all_short : (more : List ℕ)
      → length (group_lines (length (sweep_of text)) text (group_records 0 (placed_of text (sweep_of text) []) ++ more) ((tally_of text 0 (sweep_of text) []).records ++ rest))
      ≤ 106 * item_count (sweep_of text) + key_sum ((tally_of text 0 (sweep_of text) []).records ++ rest) 0 (item_count (sweep_of text))
  unfolding placed_of
  all_short more =
      let g = groups_short (placed_from text (sweep_of text) [] false 0 (sweep_of text)) text 0 more ((tally_of text 0 (sweep_of text) []).records ++ rest) in
      rw (placed_length _ text false 0 (sweep_of text), placed_groups _ text false 0 (sweep_of text)) at g

  lines_by : (more : List ℕ)
      → length (group_lines (length (sweep_of text)) text (group_records 0 (placed_of text (sweep_of text) []) ++ more) ((tally_of text 0 (sweep_of text) []).records ++ rest))
      ≤ 36 * length text
  lines_by more =
      let f = swept_fits_plain text h in
      let a = all_short more in
      let k = keys_there in
      omega (arith, f.room)

count_short : (a : Annotated) → length (count_line a) ≤ 84
unfolding count_line ascii
count_short a =
    let x = decimal_short a.groups in
    let y = decimal_short a.items in
    let z = decimal_short a.sources in
    simp length-append (omega arith)

refused_short : (n : ℕ) → length (refused_line n) ≤ 84
unfolding refused_line ascii
refused_short n = let x = decimal_short n in simp length-append (omega arith)

-- an answer that is refused, or has nothing to list
refused_any : (n : ℕ) (text : List ℕ) (given : Areas) → length (answer_lines text (annotate_refused n given)) ≤ 84
unfolding answer_lines group_lines
refused_any n text given = go (eqb n 0)
  where
    go : (t : Bool) → length (pick t (count_line (annotate_refused n given) ++ []) (refused_line n)) ≤ 84
    go true = let c = count_short (annotate_refused n given) in rw length-append (omega arith)
    go false = refused_short n

-- where nothing refuses it
given_short : (text : List ℕ) (given : Areas) → length text ≤ 4096
    → length (answer_lines text (answer_of (sweep_of text) (content_of text 0 (sweep_of text) []) given)) ≤ 36 * 4096 + 84
unfolding answer_lines answer_of annotate_gives content_written content_of written
given_short text given h = go (room_for (content_of text 0 (sweep_of text) []) given)
  where
    go : (t : Bool)
        → length (answer_lines text (pick t (annotate_gives (sweep_of text) (content_of text 0 (sweep_of text) []) given) (annotate_refused 10 (zero_filled given))))
        ≤ 36 * 4096 + 84
    go true =
        let c = count_short (annotate_gives (sweep_of text) (content_of text 0 (sweep_of text) []) given) in
        let l = lines_by text (drop (length (tally_of text 0 (sweep_of text) []).records) given.items) (omega arith)
        (drop (length (group_records 0 (placed_of text (sweep_of text) []))) given.groups) in
        rw length-append (omega arith)
    go false = let r = refused_short 10 in omega arith

pub listing_short : (text : List ℕ) → length (listing_of text) ≤ 150000
unfolding listing_of listing_answer annotate_plain
listing_short text = go (ltb 4096 (length text)) refl
  where
    plain : (t : Bool) → length text ≤ 4096
        → length (answer_lines text (pick t (answer_of (sweep_of text) (content_of text 0 (sweep_of text) []) (listing_areas (length text)))
        (annotate_refused (annotate_refusal text 0 [] (length text) (length text)) (listing_areas (length text))))) ≤ 150000
    plain true h = let g = given_short text (listing_areas (length text)) h in omega arith
    plain false h =
        let r = refused_any (annotate_refusal text 0 [] (length text) (length text)) text (listing_areas (length text)) in omega arith

    go : (t : Bool) → ltb 4096 (length text) ≡ t
        → length (pick t (refused_line 1) (answer_lines text (pick (eqb (annotate_refusal text 0 [] (length text) (length text)) 0)
        (answer_of (sweep_of text) (content_of text 0 (sweep_of text) []) (listing_areas (length text)))
        (annotate_refused (annotate_refusal text 0 [] (length text) (length text)) (listing_areas (length text)))))) ≤ 150000
    go true q = let r = refused_short 1 in omega arith
    go false q = plain (eqb (annotate_refusal text 0 [] (length text) (length text)) 0) (ltb-false 4096 (length text) q)
