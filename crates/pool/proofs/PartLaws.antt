-- The fields of a part of some bytes are those that the bytes have there,
-- and fields are read off the front.
use Prim.Native.Nat.{ℕ, zero, suc, ◌+◌, ◌-◌, ◌≤◌, ◌<◌}
use native.Mathlib.Omega.{arith}
use mathlib.Core.Path.{◌≡◌, refl, sym, ◌∙◌, ap}
use mathlib.Core.List.{List, [], ◌∷◌}
use mathlib.Core.Bool.{Bool, true, false, ◌&&◌, true≢false}
use lib.ListN.{length, take, drop, length-drop}
use native.Mathlib.Nat.{sub-zero}
use lib.Seq.{take_all}
use lib.Dec.{eqb, leb, ltb}
use borrow.Author.Tests.{lt-ltb, leb-true, le-leb, lt-leb, ltb-true, ltb-false, eq-eqb, eqb-true}
use Rattle.base.specs.Pick.{pick}
use Rattle.base.specs.Lists.{byte_at, part}
use Rattle.base.proofs.Bools.{and_left, and_right, and_three, both}
use Rattle.base.proofs.Parts.{part_is, part_length, part_byte, part_part}
use Rattle.pool.specs.Numbers.{u16_at}
use Rattle.pool.specs.Fields.{Field, field_end, field_at, fields_in, fill_in, fields_of, fill, fields_good, good_from, entry_good, content_good, follows}
use Rattle.pool.specs.Readers.{all_fields, are_fields}
use Rattle.pool.specs.Steps.{has_field, Split, good_rest}
use Rattle.pool.proofs.NumberLaws.{le_part}
use Rattle.pool.proofs.FieldLaws.{field_long, fields_next, fill_next, fields_end}

three_same : (a b b' f f' : Bool) → (a ≡ true → b ≡ b') → (a ≡ true → f ≡ f') → (a && b && f) ≡ (a && b' && f')
three_same true b b' f f' p q = rw (p refl, q refl) refl
three_same false b b' f f' p q = refl

module _ (s : List ℕ) (a e : ℕ) (l : a ≤ e) (h : e ≤ length s) where
  end_part : (i : ℕ) → a + i + 3 ≤ e → a + field_end (part s a e) i ≡ field_end s (a + i)
  unfolding field_end
  end_part i q =
      let z : a + (i + 1) ≡ a + i + 1 = omega arith in
      let p : u16_at (part s a e) (i + 1) ≡ u16_at s (a + i + 1) = le_part 2 s a e (i + 1) l h (omega arith) ∙ ap (u16_at s) z in
      omega arith

  eqb_part : (i : ℕ) → eqb i (e - a) ≡ eqb (a + i) e
  eqb_part i = both _ _ (λ p. eq-eqb (a + i) e (let q = eqb-true i (e - a) p in omega arith)) (λ p. eq-eqb i (e - a) (let q = eqb-true (a + i) e p in omega arith))

  ltb_part : (i : ℕ) → ltb i (e - a) ≡ ltb (a + i) e
  ltb_part i = both _ _ (λ p. lt-ltb (a + i) e (let q = ltb-true i (e - a) p in omega arith)) (λ p. lt-ltb i (e - a) (let q = ltb-true (a + i) e p in omega arith))

  leb_part : (i : ℕ) → leb i (e - a) ≡ leb (a + i) e
  leb_part i = both _ _ (λ p. le-leb (a + i) e (let q = leb-true i (e - a) p in omega arith)) (λ p. le-leb i (e - a) (let q = leb-true (a + i) e p in omega arith))

  fill_part : (n i : ℕ) → fill_in n (part s a e) i (e - a) ≡ fill_in n s (a + i) e
  unfolding fill_in
  fill_part zero i = eqb_part i
  fill_part (suc n) i =
      let z : a + (i + 3) ≡ a + i + 3 = omega arith in
      rw (ltb_part i, eqb_part i)
      (ap (λ (t : Bool). pick (ltb (a + i) e) t (eqb (a + i) e))
      (rw (leb_part (i + 3), z)
      (three_same (leb (a + i + 3) e) _ _ _ _
      (λ q. leb_part (field_end (part s a e) i) ∙ ap (λ (k : ℕ). leb k e) (end_part i (leb-true _ _ q)))
      (λ q. fill_part n (field_end (part s a e) i) ∙ ap (λ (k : ℕ). fill_in n s k e) (end_part i (leb-true _ _ q))))))

  field_part : (i : ℕ) → a + i + 3 ≤ e → field_end s (a + i) ≤ e → field_at (part s a e) i ≡ field_at s (a + i)
  unfolding field_at
  field_part i q r =
      let k = end_part i q in
      let m = field_long (part s a e) i in
      let z : a + (i + 3) ≡ a + i + 3 = omega arith in
      rw (part_byte s a e l h i (omega arith), part_part s a e l h (i + 3) (field_end (part s a e) i) m (omega arith), k, z) refl

  fields_part : (n i : ℕ) → fill_in n s (a + i) e ≡ true → fields_in n (part s a e) i (e - a) ≡ fields_in n s (a + i) e
  unfolding fields_in fill_in
  fields_part zero i g = refl
  fields_part (suc n) i g =
      rw (ltb_part i) (go (ltb (a + i) e) refl g (λ j u. fields_part n j u))
    where
      next : ((j : ℕ) → fill_in n s (a + j) e ≡ true → fields_in n (part s a e) j (e - a) ≡ fields_in n s (a + j) e)
          → (leb (a + i + 3) e ≡ true) × (leb (field_end s (a + i)) e ≡ true) × (fill_in n s (field_end s (a + i)) e ≡ true)
          → ◌≡◌ {A = List Field} (field_at (part s a e) i ∷ fields_in n (part s a e) (field_end (part s a e) i) (e - a)) (field_at s (a + i) ∷ fields_in n s (field_end s (a + i)) e)
      next rec t =
          let x = leb-true _ _ t.0 in
          let k = end_part i x in
          let u : fill_in n s (a + field_end (part s a e) i) e ≡ true = ap (λ (j : ℕ). fill_in n s j e) k ∙ t.2 in
          rw (field_part i x (leb-true _ _ t.1), rec (field_end (part s a e) i) u, k) refl

      go : (t : Bool) → ltb (a + i) e ≡ t
          → pick t (leb (a + i + 3) e && leb (field_end s (a + i)) e && fill_in n s (field_end s (a + i)) e) (eqb (a + i) e) ≡ true
          → ((j : ℕ) → fill_in n s (a + j) e ≡ true → fields_in n (part s a e) j (e - a) ≡ fields_in n s (a + j) e)
          → pick t (field_at (part s a e) i ∷ fields_in n (part s a e) (field_end (part s a e) i) (e - a)) []
          ≡ pick t (field_at s (a + i) ∷ fields_in n s (field_end s (a + i)) e) []
      go true q w rec = next rec (and_three _ _ _ w)
      go false q w rec = refl

  pub fill_of_part : fill (part s a e) 0 (length (part s a e)) ≡ fill s a e
  unfolding fill
  fill_of_part =
      let z : a + 0 ≡ a = omega arith in
      rw (part_length s a e l h, sub-zero) (fill_part (e - a) 0 ∙ ap (λ (j : ℕ). fill_in (e - a) s j e) z)

  pub fields_of_part : fill s a e ≡ true → all_fields (part s a e) ≡ fields_of s a e
  unfolding fill fields_of
  fields_of_part g =
      let z : a + 0 ≡ a = omega arith in
      let u : fill_in (e - a) s (a + 0) e ≡ true = ap (λ (j : ℕ). fill_in (e - a) s j e) z ∙ g in
      rw (part_length s a e l h, sub-zero) (fields_part (e - a) 0 u ∙ ap (λ (j : ℕ). fields_in (e - a) s j e) z)

-- the bytes of an entry are fields
pub entry_fields : (s : List ℕ) (a e : ℕ) → a ≤ e → e ≤ length s → entry_good s a e ≡ true → are_fields (take (e - a) (drop a s)) ≡ true
unfolding good_from
entry_fields s a e l h g = rw (← part_is s a e l h, fill_of_part s a e l h) (and_left (fill s a e) (fields_good 0 (fields_of s a e)) g)

-- and are those that stand there
pub entry_same : (s : List ℕ) (a e : ℕ) → a ≤ e → e ≤ length s → entry_good s a e ≡ true → all_fields (take (e - a) (drop a s)) ≡ fields_of s a e
unfolding good_from
entry_same s a e l h g = rw (← part_is s a e l h) (fields_of_part s a e l h (and_left (fill s a e) (fields_good 0 (fields_of s a e)) g))

rest_is : (s : List ℕ) (k : ℕ) → k ≤ length s → part s k (length s) ≡ drop k s
rest_is s k h = part_is s k (length s) h (omega arith) ∙ take_all (length s - k) (drop k s) (rw length-drop (omega arith))

-- a field at the front of some bytes, that ends at `e`
pub split_short : (s : List ℕ) → length s < 3 → has_field s ≡ false
unfolding has_field
split_short s h = rw (lt-leb 3 (length s) h) refl

module _ (s : List ℕ) {e : ℕ} (v : e ≡ field_end s 0) (l : 3 ≤ length s) where
  pub split_past : length s < e → has_field s ≡ false
  unfolding has_field
  split_past h = rw (le-leb 3 (length s) l, ← v, lt-leb e (length s) h) refl

  module _ (h : e ≤ length s) where
    pub split_long : 3 ≤ e
    split_long = let m = field_long s 0 in omega arith

    pub split_is : {b r : List ℕ} → b ≡ take (e - 3) (drop 3 s) → r ≡ take (length s - e) (drop e s) → Split s (record { tag = byte_at s 0; bytes = b }) r
    unfolding has_field field_at
    split_is p q =
        record {
          room = rw (le-leb 3 (length s) l, ← v, le-leb e (length s) h) refl;
          field = rw (p, ← v, part_is s 3 e split_long h) refl;
          rest = q ∙ take_all (length s - e) (drop e s) (rw length-drop (omega arith)) ∙ rw v refl;
        }

pub ruleset split_laws = (split_short, split_past, split_long, split_is)

-- no bytes are no fields, and others begin with one
pub fields_none : (s : List ℕ) → are_fields s ≡ true → has_field s ≡ false → all_fields s ≡ []
unfolding has_field
fields_none s filled h = fields_end s 0 (length s) (go (ltb 0 (length s)) refl)
  where
    go : (t : Bool) → ltb 0 (length s) ≡ t → length s ≤ 0
    go true q =
        absurd
        (true≢false
        (sym (and_left (leb 3 (length s) && leb (field_end s 0) (length s)) (fill s (field_end s 0) (length s)) (sym (fill_next s 0 (length s) (ltb-true _ _ q)) ∙ filled)) ∙ h))
    go false q = ltb-false _ _ q

and_none : (a : Bool) → false ≡ (a && false)
and_none true = refl
and_none false = refl

module _ (s : List ℕ) (f : Field) (r : List ℕ) (x : Split s f r) where
  pub split_room : (3 ≤ length s) × (field_end s 0 ≤ length s)
  unfolding has_field
  split_room = (
    leb-true _ _ (and_left (leb 3 (length s)) (leb (field_end s 0) (length s)) x.room),
    leb-true _ _ (and_right (leb 3 (length s)) (leb (field_end s 0) (length s)) x.room),
  )

  some : 0 < length s
  some = let l = split_room.0 in omega arith

  pub split_shorter : length r < length s
  split_shorter = let l = split_room.1 in let m = field_long s 0 in rw (x.rest, length-drop) (omega arith)

  left : r ≡ part s (field_end s 0) (length s)
  left = x.rest ∙ sym (rest_is s (field_end s 0) split_room.1)

  pub split_fill : fill s 0 (length s) ≡ fill r 0 (length r)
  split_fill =
      let l = split_room.1 in
      let m : (leb 3 (length s) && leb (field_end s 0) (length s) && fill s (field_end s 0) (length s)) ≡ fill s (field_end s 0) (length s) =
      rw (le-leb 3 (length s) split_room.0, le-leb (field_end s 0) (length s) l) refl in
      fill_next s 0 (length s) some ∙ m ∙ rw left (sym (fill_of_part s (field_end s 0) (length s) l (omega arith)))

  pub split_fields : fill s 0 (length s) ≡ true → all_fields s ≡ f ∷ all_fields r
  split_fields g =
      let l = split_room.1 in
      let w : fill s (field_end s 0) (length s) ≡ true =
      sym (fill_of_part s (field_end s 0) (length s) l (omega arith)) ∙ rw (← left) (sym split_fill ∙ g) in
      fields_next s 0 (length s) some ∙ rw (x.field, left, fields_of_part s (field_end s 0) (length s) l (omega arith) w) refl

  -- what is left are fields again
  pub split_others : are_fields s ≡ true → are_fields r ≡ true
  split_others g = sym split_fill ∙ g

  pub split_reads : are_fields s ≡ true → all_fields s ≡ f ∷ all_fields r
  split_reads g = split_fields g

  -- the check of an entry goes on behind it
  pub good_next : (last : ℕ) → good_rest last s ≡ (follows last f.tag && content_good f.tag f.bytes && good_rest f.tag r)
  unfolding good_from fields_good
  good_next last = go (fill s 0 (length s)) refl
    where
      go : (t : Bool) → fill s 0 (length s) ≡ t
          → (fill s 0 (length s) && fields_good last (all_fields s))
          ≡ (follows last f.tag && content_good f.tag f.bytes && (fill r 0 (length r) && fields_good f.tag (all_fields r)))
      go true p = rw (p, sym split_fill ∙ p, split_fields p) refl
      go false p = rw (p, sym split_fill ∙ p) (and_none (follows last f.tag && content_good f.tag f.bytes))

pub ruleset next_laws = (fields_none, split_reads, split_others)

-- the check of a part
pub good_of_part : (s : List ℕ) (last a e : ℕ) → a ≤ e → e ≤ length s → good_rest last (take (e - a) (drop a s)) ≡ good_from last s a e
unfolding good_from
good_of_part s last a e l h = rw (← part_is s a e l h) (go (fill s a e) refl)
  where
    go : (t : Bool) → fill s a e ≡ t
        → (fill (part s a e) 0 (length (part s a e)) && fields_good last (all_fields (part s a e))) ≡ (fill s a e && fields_good last (fields_of s a e))
    go true p = rw (fill_of_part s a e l h, fields_of_part s a e l h p) refl
    go false p = rw (fill_of_part s a e l h, p) refl
