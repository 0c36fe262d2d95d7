-- The bytes of a source text fit `answer`:
-- an entry of a pool of at most 32,768 bytes has no more fields than that, and no field is longer.
use Prim.Native.Nat.{ℕ, zero, suc, ◌+◌, ◌-◌, ◌*◌, ◌≤◌, ◌<◌}
use native.Mathlib.Omega.{arith}
use mathlib.Core.Path.{◌≡◌, refl}
use mathlib.Core.List.{List, [], ◌∷◌, ◌++◌}
use mathlib.Core.Bool.{Bool, true, false, not, ◌&&◌}
use mathlib.Core.Option.{Option, none, some, get_or}
use lib.ListN.{length, take, drop, length-append, length-take, length-drop}
use lib.Dec.{eqb, leb, ltb}
use borrow.Author.Tests.{ltb-true}
use Rattle.base.specs.Pick.{pick}
use Rattle.base.specs.Fold.{fold}
use Rattle.base.specs.Lists.{part, within, written}
use Rattle.base.specs.Sorted.{Each}
use Rattle.pool.specs.Numbers.{Signed}
use Rattle.pool.specs.Fields.{Field, field_end, field_at, fields_in, fields_of}
use Rattle.pool.specs.Entries.{Entry, field_with, in_name, name_after, name_at, names_in, entry_of, entry_from}
use Rattle.pool.specs.Layout.{count_of, offset_of, end_of, well_formed, entry_at}
use Rattle.pool.proofs.PoolLaws.{laid_out_lem, count_bytes, entry_there}
use Rattle.decimal.proofs.Laws.{decimal_short}
use Rattle.decimal.specs.Decimal.{decimal}
use Rattle.source.specs.Decimal.{signed_decimal}
use Rattle.source.specs.Entry.{is_empty, year_by, year_of}
use Rattle.source_parts.specs.Joined.{beside}
use Rattle.source_text.specs.Text.{add_name, names_of, head_of, ended, body_of, source_text_of}
use Rattle.source_parts.specs.Names.{given_part, family_part, name_by, name_of}
use Rattle.source_parts.specs.Parens.{in_parens}
use Rattle.source_text.specs.Call.{source_refused, source_written, source_text_call}
use Rattle.source_text.specs.Values.{source_text_numbers}
use Rattle.answers.specs.Words.{Words, word_bound}

-- the fields -----------------------------------------------------------------------------------------------------------------------

abbrev Short : Field → Type 0
Short f = length f.bytes ≤ 32768

part_short : (s : List ℕ) (a e : ℕ) → length (part s a e) ≤ length s
unfolding part
part_short s a e = go (leb a e && leb e (length s))
  where
    go : (t : Bool) → length (pick t (take (e - a) (drop a s)) []) ≤ length s
    go true = simp (length-take, length-drop) (omega arith)
    go false = omega arith

module _ (s : List ℕ) (h : length s ≤ 32768) where
  fields_short : (n at e : ℕ) → Each Short (fields_in n s at e)
  unfolding fields_in field_at
  fields_short zero at e = tt
  fields_short (suc n) at e = go (ltb at e) (fields_short n (field_end s at) e)
    where
      go : (t : Bool) → Each Short (fields_in n s (field_end s at) e) → Each Short (pick t (field_at s at ∷ fields_in n s (field_end s at) e) [])
      go true k = let p = part_short s (at + 3) (field_end s at) in (omega arith, k)
      go false k = tt

fields_few : (n : ℕ) (s : List ℕ) (at e : ℕ) → length (fields_in n s at e) ≤ n
unfolding fields_in
fields_few zero s at e = omega arith
fields_few (suc n) s at e = go (ltb at e) (fields_few n s (field_end s at) e)
  where
    go : (t : Bool) → length (fields_in n s (field_end s at) e) ≤ n → length (pick t (field_at s at ∷ fields_in n s (field_end s at) e) []) ≤ suc n
    go true k = omega arith
    go false k = omega arith

tagged_short : (t : ℕ) (fs : List Field) → Each Short fs → length (get_or (field_with t fs) []) ≤ 32768
unfolding field_with
tagged_short t [] h = omega arith
tagged_short t (f ∷ fs) h = go (eqb f.tag t) (tagged_short t fs h.1)
  where
    go : (b : Bool) → length (get_or (field_with t fs) []) ≤ 32768 → length (get_or (pick b (some f.bytes) (field_with t fs)) []) ≤ 32768
    go true k = h.0
    go false k = k

-- the names ------------------------------------------------------------------------------------------------------------------------

in_name_short : (t : ℕ) (fs : List Field) → Each Short fs → length (get_or (in_name t fs) []) ≤ 32768
unfolding in_name
in_name_short t [] h = omega arith
in_name_short t (f ∷ fs) h = go (eqb f.tag t) (within 3 5 f.tag) (in_name_short t fs h.1)
  where
    go : (a b : Bool) → length (get_or (in_name t fs) []) ≤ 32768 → length (get_or (pick a (some f.bytes) (pick b (in_name t fs) none)) []) ≤ 32768
    go true b k = h.0
    go false true k = k
    go false false k = omega arith

by_short : (l f g : Option (List ℕ)) → length (get_or l []) ≤ 32768 → length (get_or f []) ≤ 32768 → length (get_or g []) ≤ 32768 → length (name_by l f g) ≤ 65538
unfolding name_by family_part given_part
by_short (some l) f g a b c = omega arith
by_short none (some f) (some g) a b c = simp length-append (omega arith)
by_short none (some f) none a b c = simp length-append (omega arith)
by_short none none g a b c = omega arith

name_short : (fs : List Field) → Each Short fs → length (name_of (name_after fs)) ≤ 65538
unfolding name_of name_after
name_short fs h = by_short (in_name 5 fs) (in_name 3 fs) (in_name 4 fs) (in_name_short 5 fs h) (in_name_short 3 fs h) (in_name_short 4 fs h)

beside_short : (sep a b : List ℕ) → length (beside sep a b) ≤ length a + length sep + length b
unfolding beside
beside_short sep a b = go (is_empty a) (is_empty b)
  where
    go : (t u : Bool) → length (pick t b (pick u a (a ++ (sep ++ b)))) ≤ length a + length sep + length b
    go true u = omega arith
    go false true = omega arith
    go false false = simp length-append (omega arith)

names_short : (fs : List Field) (so_far : List ℕ) → Each Short fs → length (fold add_name so_far (names_in fs)) ≤ length so_far + 65540 * length fs
unfolding names_in name_at fold add_name
names_short [] so_far h = omega arith
names_short (f ∷ fs) so_far h =
    go (eqb f.tag 2) (names_short fs (beside (59 ∷ 32 ∷ []) so_far (name_of (name_after fs))) h.1) (names_short fs so_far h.1)
  where
    go : (t : Bool)
        → length (fold add_name (beside (59 ∷ 32 ∷ []) so_far (name_of (name_after fs))) (names_in fs))
        ≤ length (beside (59 ∷ 32 ∷ []) so_far (name_of (name_after fs))) + 65540 * length fs
        → length (fold add_name so_far (names_in fs)) ≤ length so_far + 65540 * length fs
        → length (fold add_name so_far (pick t (name_after fs ∷ []) [] ++ names_in fs)) ≤ length so_far + 65540 * suc (length fs)
    go true with_it without =
        let n = name_short fs h.1 in
        let b = beside_short (59 ∷ 32 ∷ []) so_far (name_of (name_after fs)) in
        omega arith
    go false with_it without = omega arith

-- the text -------------------------------------------------------------------------------------------------------------------------

signed_short : (y : Signed) → length (signed_decimal y) ≤ 21
unfolding signed_decimal
signed_short y = go y.negative (decimal_short y.magnitude)
  where
    go : (t : Bool) → length (decimal y.magnitude) ≤ 20 → length (pick t (45 ∷ decimal y.magnitude) (decimal y.magnitude)) ≤ 21
    go true k = omega arith
    go false k = omega arith

year_short : (y : Option Signed) (d : Option (List ℕ)) → length (get_or d []) ≤ 32768 → length (in_parens (year_by y d)) ≤ 32770
unfolding year_by in_parens
year_short (some y) d h = let k = signed_short y in simp length-append (omega arith)
year_short none (some d) h = simp length-append (omega arith)
year_short none none h = omega arith

ended_short : (s : List ℕ) → length (ended s) ≤ length s + 1
unfolding ended
ended_short s = go (is_empty s)
  where
    go : (t : Bool) → length (pick t [] (s ++ (46 ∷ []))) ≤ length s + 1
    go true = omega arith
    go false = simp length-append (omega arith)

module _ (s : List ℕ) (at e : ℕ) (small : length s ≤ 32768) (inside : e ≤ length s) where
  abbrev entry : Entry
  entry = entry_from s at e

  all_short : Each Short (fields_of s at e)
  unfolding fields_of
  all_short = fields_short s small (e - at) at e

  all_few : length (fields_of s at e) ≤ 32768
  unfolding fields_of
  all_few = let k = fields_few (e - at) s at e in omega arith

  names_by : length (names_of entry) ≤ 2147614720
  unfolding names_of entry_of
  names_by = let k = names_short (fields_of s at e) [] all_short in let f = all_few in omega arith

  head_by : length (head_of entry) ≤ 2147647491
  unfolding head_of year_of entry_of
  head_by =
      let n = names_by in
      let y = year_short entry.year entry.date (tagged_short 7 (fields_of s at e) all_short) in
      let b = beside_short (32 ∷ []) (names_of entry) (in_parens (year_by entry.year entry.date)) in
      omega arith

  text_by : length (source_text_of entry) < word_bound
  unfolding source_text_of body_of entry_of
  text_by =
      let h = head_by in
      let t = tagged_short 8 (fields_of s at e) all_short in
      let b = beside_short (46 ∷ 32 ∷ []) (head_of entry) (get_or entry.title []) in
      let d = ended_short (body_of entry) in
      omega arith

entry_text_by : (p : List ℕ) (i : ℕ) → well_formed p ≡ true → i < count_of p → length (source_text_of (entry_at p i)) < word_bound
unfolding entry_at
entry_text_by p i w h =
    let t = entry_there p i w h in
    text_by p (offset_of p i) (end_of p i) (laid_out_lem p w (count_bytes p w h)).small t.inside

pub source_words : (p : List ℕ) (i : ℕ) (area : List ℕ) → Words (source_text_numbers (source_text_call p i area))
unfolding source_text_call source_text_numbers source_written Words
source_words p i area = go (well_formed p) refl (ltb i (count_of p)) refl
  where
    out : List ℕ
    out = source_text_of (entry_at p i)

    full : (t : Bool) → length out < word_bound → Words (source_text_numbers (pick t (source_refused 10 area) (record { number = 0; bytes = length out; area = written out area })))
    full true h = (omega arith, (omega arith, tt))
    full false h = (omega arith, (h, tt))

    go : (w : Bool) → well_formed p ≡ w → (b : Bool) → ltb i (count_of p) ≡ b
        → Words (source_text_numbers (pick (not w) (source_refused 7 area) (pick (not b) (source_refused 8 area) (source_written out area))))
    go false q b r = (omega arith, (omega arith, tt))
    go true q false r = (omega arith, (omega arith, tt))
    go true q true r = full (ltb (length area) (length out)) (entry_text_by p i q (ltb-true i (count_of p) r))
