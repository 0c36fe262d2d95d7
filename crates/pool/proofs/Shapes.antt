-- THEOREMS `GoodIsSpelled` and `SpelledIsGood`: the tags of a good entry are 1 (2 3? 4? 5?)* 6? 7? 8?,
-- and these make one good.
use Prim.Native.Nat.{ℕ, ◌≤◌, ◌<◌}
use native.Mathlib.Omega.{arith}
use mathlib.Core.Path.{◌≡◌, refl, sym, ◌∙◌, ap, subst}
use mathlib.Core.List.{List, [], ◌∷◌, ◌++◌}
use mathlib.Core.Bool.{Bool, true, false, ◌&&◌, true≢false}
use lib.Dec.{eqb, leb}
use borrow.Author.Tests.{eqb-true, leb-true, ltb-true}
use Rattle.base.specs.Lists.{within, up_from}
use Rattle.base.specs.Sorted.{Each}
use Rattle.base.proofs.Bools.{and_left, and_right, and_three, or_four}
use Rattle.base.proofs.Ranges.{within_is, each_up}
use Rattle.pool.specs.Fields.{Field, fields_of, fill, follows, fields_good, good_from}
use Rattle.pool.specs.Facts.{optional, NameShape, name_tags, names_tags, end_tags, EntryShape, entry_tags, tags_of, ContentsGood, GoodIsSpelled, SpelledIsGood}

-- which tag may come after which
follows_is : {R : Type 0} (last n : ℕ) → follows last n ≡ true → (n ≡ 1 → last ≡ 0 → R) → (n ≡ 2 → (1 ≤ last) × (last ≤ 5) → R)
    → ((3 ≤ n) × (n ≤ 5) → 2 ≤ last → last < n → R) → ((6 ≤ n) × (n ≤ 8) → 1 ≤ last → last < n → R) → R
unfolding follows
follows_is last n h one two name end =
    or_four (eqb n 1 && eqb last 0) _ _ _ h
    (λ e. one (eqb-true n _ (and_left (eqb n 1) _ e)) (eqb-true last _ (and_right (eqb n 1) _ e)))
    (λ e. two (eqb-true n _ (and_left (eqb n 2) _ e)) (within_is _ _ last (and_right (eqb n 2) _ e)))
    (λ e. let x = and_three (within 3 5 n) _ _ e in name (within_is _ _ n x.0) (leb-true _ last x.1) (ltb-true last n x.2))
    (λ e. let x = and_three (within 6 8 n) _ _ e in end (within_is _ _ n x.0) (leb-true _ last x.1) (ltb-true last n x.2))

-- the tags after a field with the tag `last`: what is left of a name, more names, and the end
record After (last : ℕ) (tags : List ℕ) : Type 0 where
  family : Bool
  given : Bool
  literal : Bool
  names : List NameShape
  year : Bool
  date : Bool
  title : Bool
  spelled : tags ≡ optional family 3 ++ (optional given 4 ++ (optional literal 5 ++ (names_tags names ++ end_tags year date title)))
  family_by : family ≡ true → (2 ≤ last) × (last < 3)
  given_by : given ≡ true → (2 ≤ last) × (last < 4)
  literal_by : literal ≡ true → (2 ≤ last) × (last < 5)
  names_by : 5 < last → names ≡ []
  year_by_lem : year ≡ true → last < 6
  date_by : date ≡ true → last < 7
  title_by : title ≡ true → last < 8

is_false : (b : Bool) → (b ≡ true → ⊥) → b ≡ false
is_false true f = absurd (f refl)
is_false false f = refl

never : {A : Type 0} → ◌≡◌ {A = Bool} false true → A
never e = absurd (true≢false (sym e))

module _ (last : ℕ) (tags : List ℕ) where
  after_2 : (1 ≤ last) × (last ≤ 5) → After 2 tags → After last (2 ∷ tags)
  unfolding names_tags
  after_2 h r = record {
    family = false;
    given = false;
    literal = false;
    names = record { family = r.family; given = r.given; literal = r.literal } ∷ r.names;
    year = r.year;
    date = r.date;
    title = r.title;
    spelled = ap (λ (l : List ℕ). 2 ∷ l) (r.spelled ∙ go r.family r.given r.literal (names_tags r.names) (end_tags r.year r.date r.title));
    family_by = never;
    given_by = never;
    literal_by = never;
    names_by = λ l. absurd (omega (arith, h));
    year_by_lem = λ e. omega (arith, h);
    date_by = λ e. omega (arith, h);
    title_by = λ e. omega (arith, h);
  }
    where
      go : (f g l : Bool) (ns end : List ℕ) → optional f 3 ++ (optional g 4 ++ (optional l 5 ++ (ns ++ end))) ≡ (optional f 3 ++ (optional g 4 ++ optional l 5)) ++ ns ++ end
      go true true true ns end = refl
      go true true false ns end = refl
      go true false true ns end = refl
      go true false false ns end = refl
      go false true true ns end = refl
      go false true false ns end = refl
      go false false true ns end = refl
      go false false false ns end = refl

  after_3 : 2 ≤ last → last < 3 → After 3 tags → After last (3 ∷ tags)
  after_3 h k r =
      let f = is_false r.family (λ e. omega (arith, r.family_by e)) in
      record {
        family = true;
        given = r.given;
        literal = r.literal;
        names = r.names;
        year = r.year;
        date = r.date;
        title = r.title;
        spelled = ap (λ (l : List ℕ). 3 ∷ l) (rw f at r.spelled);
        family_by = λ e. (h, k);
        given_by = λ e. (h, omega arith);
        literal_by = λ e. (h, omega arith);
        names_by = λ l. absurd (omega arith);
        year_by_lem = λ e. omega arith;
        date_by = λ e. omega arith;
        title_by = λ e. omega arith;
      }

  after_4 : 2 ≤ last → last < 4 → After 4 tags → After last (4 ∷ tags)
  after_4 h k r =
      let f = is_false r.family (λ e. omega (arith, r.family_by e)) in
      let g = is_false r.given (λ e. omega (arith, r.given_by e)) in
      record {
        family = false;
        given = true;
        literal = r.literal;
        names = r.names;
        year = r.year;
        date = r.date;
        title = r.title;
        spelled = ap (λ (l : List ℕ). 4 ∷ l) (rw (f, g) at r.spelled);
        family_by = never;
        given_by = λ e. (h, k);
        literal_by = λ e. (h, omega arith);
        names_by = λ l. absurd (omega arith);
        year_by_lem = λ e. omega arith;
        date_by = λ e. omega arith;
        title_by = λ e. omega arith;
      }

  after_5 : 2 ≤ last → last < 5 → After 5 tags → After last (5 ∷ tags)
  after_5 h k r =
      let f = is_false r.family (λ e. omega (arith, r.family_by e)) in
      let g = is_false r.given (λ e. omega (arith, r.given_by e)) in
      let l = is_false r.literal (λ e. omega (arith, r.literal_by e)) in
      record {
        family = false;
        given = false;
        literal = true;
        names = r.names;
        year = r.year;
        date = r.date;
        title = r.title;
        spelled = ap (λ (l : List ℕ). 5 ∷ l) (rw (f, g, l) at r.spelled);
        family_by = never;
        given_by = never;
        literal_by = λ e. (h, k);
        names_by = λ l. absurd (omega arith);
        year_by_lem = λ e. omega arith;
        date_by = λ e. omega arith;
        title_by = λ e. omega arith;
      }

  -- of 6, 7 and 8, none of a name is left, and no name
  after_name : (n : ℕ) → 5 < n → (r : After n tags) → tags ≡ end_tags r.year r.date r.title
  unfolding names_tags
  after_name n h r =
      let f = is_false r.family (λ e. omega (arith, r.family_by e)) in
      let g = is_false r.given (λ e. omega (arith, r.given_by e)) in
      let l = is_false r.literal (λ e. omega (arith, r.literal_by e)) in
      rw (f, g, l, r.names_by h) at r.spelled

  after_end : (year date title : Bool) {l : List ℕ} → l ≡ end_tags year date title → (year ≡ true → last < 6) → (date ≡ true → last < 7) → (title ≡ true → last < 8)
      → After last l
  unfolding names_tags
  after_end year date title e y d t = record {
    family = false;
    given = false;
    literal = false;
    names = [];
    year = year;
    date = date;
    title = title;
    spelled = e;
    family_by = never;
    given_by = never;
    literal_by = never;
    names_by = λ l. refl;
    year_by_lem = y;
    date_by = d;
    title_by = t;
  }

  after_6 : last < 6 → After 6 tags → After last (6 ∷ tags)
  after_6 h r =
      let y = is_false r.year (λ e. omega (arith, r.year_by_lem e)) in
      after_end true r.date r.title (ap (λ (l : List ℕ). 6 ∷ l) (rw y at (after_name 6 (omega arith) r))) (λ e. h) (λ e. omega arith) (λ e. omega arith)

  after_7 : last < 7 → After 7 tags → After last (7 ∷ tags)
  after_7 h r =
      let y = is_false r.year (λ e. omega (arith, r.year_by_lem e)) in
      let d = is_false r.date (λ e. omega (arith, r.date_by e)) in
      after_end false true r.title (ap (λ (l : List ℕ). 7 ∷ l) (rw (y, d) at (after_name 7 (omega arith) r))) never (λ e. h) (λ e. omega arith)

  after_8 : last < 8 → After 8 tags → After last (8 ∷ tags)
  after_8 h r =
      let y = is_false r.year (λ e. omega (arith, r.year_by_lem e)) in
      let d = is_false r.date (λ e. omega (arith, r.date_by e)) in
      let t = is_false r.title (λ e. omega (arith, r.title_by e)) in
      after_end false false true (ap (λ (l : List ℕ). 8 ∷ l) (rw (y, d, t) at (after_name 8 (omega arith) r))) never never (λ e. h)

  after_step : (n : ℕ) → 1 ≤ last → follows last n ≡ true → After n tags → After last (n ∷ tags)
  unfolding up_from
  after_step n l h r =
      follows_is last n h
      (λ e z. absurd (omega arith))
      (λ e b. subst (λ (x : ℕ). After x tags → After last (x ∷ tags)) (sym e) (after_2 b) r)
      (λ b k m. each_up (λ x. last < x → After x tags → After last (x ∷ tags)) 3 3 (after_3 k, (after_4 k, (after_5 k, tt))) n b.0 (omega (arith, b)) m r)
      (λ b k m. each_up (λ x. last < x → After x tags → After last (x ∷ tags)) 6 3 (after_6, (after_7, (after_8, tt))) n b.0 (omega (arith, b)) m r)

some_tag : (last n : ℕ) → follows last n ≡ true → 1 ≤ n
some_tag last n h = follows_is last n h (λ e z. omega arith) (λ e b. omega arith) (λ b k m. omega (arith, b)) (λ b k m. omega (arith, b))

fields_after : (last : ℕ) (fs : List Field) → 1 ≤ last → fields_good last fs ≡ true → After last (tags_of fs)
unfolding fields_good
fields_after last [] l h = after_end last [] false false false refl never never never
fields_after last (f ∷ fs) l h =
    let x = and_three (follows last f.tag) _ _ h in
    let n = some_tag last f.tag x.0 in
    after_step last (tags_of fs) f.tag l x.0 (fields_after f.tag fs n x.2)

contents : (last : ℕ) (fs : List Field) → fields_good last fs ≡ true → ContentsGood fs
unfolding fields_good
contents last [] h = tt
contents last (f ∷ fs) h = let x = and_three (follows last f.tag) _ _ h in (x.1, contents f.tag fs x.2)

-- the first field is the id
spelled_by : (fs : List Field) → fields_good 0 fs ≡ true → (x : EntryShape) × (tags_of fs ≡ entry_tags x)
unfolding fields_good
spelled_by [] h = never h
spelled_by (f ∷ fs) h =
    let x = and_three (follows 0 f.tag) _ _ h in
    follows_is 0 f.tag x.0
    (λ e z. first e (fields_after f.tag fs (omega arith) x.2))
    (λ e b. absurd (omega (arith, b)))
    (λ b k m. absurd (omega arith))
    (λ b k m. absurd (omega arith))
  where
    first : f.tag ≡ 1 → After f.tag (tags_of fs) → (x : EntryShape) × (f.tag ∷ tags_of fs ≡ entry_tags x)
    first e r =
        let a = is_false r.family (λ q. omega (arith, r.family_by q)) in
        let b = is_false r.given (λ q. omega (arith, r.given_by q)) in
        let c = is_false r.literal (λ q. omega (arith, r.literal_by q)) in
        (record { names = r.names; year = r.year; date = r.date; title = r.title }, rw e (ap (λ (l : List ℕ). 1 ∷ l) (rw (a, b, c) at r.spelled)))

pub good_is_spelled : GoodIsSpelled
unfolding good_from
good_is_spelled s at e h =
    let g = and_right (fill s at e) _ h in
    (and_left (fill s at e) _ h, contents 0 (fields_of s at e) g, spelled_by (fields_of s at e) g)

-- the other way --------------------------------------------------------------------------------------------------------------------------

-- each tag may come after the one before it, and the id is there
unfoldable order_good : ℕ → List ℕ → Bool
order_good last [] = leb 1 last
order_good last (t ∷ ts) = follows last t && order_good t ts

order_fields : (last : ℕ) (fs : List Field) → order_good last (tags_of fs) ≡ true → ContentsGood fs → fields_good last fs ≡ true
unfolding order_good fields_good
order_fields last [] h c = h
order_fields last (f ∷ fs) h c =
    rw (and_left (follows last f.tag) _ h, c.0) (order_fields f.tag fs (and_right (follows last f.tag) _ h) c.1)

-- after each tag from 1 to 5
abbrev Follows5 : List ℕ → Type 0
Follows5 tags = Each (λ l. order_good l tags ≡ true) (up_from 1 5)

five : {A : Type 0} → A → A × (A × (A × (A × (A × Unit {0}))))
five a = (a, (a, (a, (a, (a, tt)))))

ends_follow : (year date title : Bool) → Follows5 (end_tags year date title)
unfolding order_good follows up_from
ends_follow true true true = five refl
ends_follow true true false = five refl
ends_follow true false true = five refl
ends_follow true false false = five refl
ends_follow false true true = five refl
ends_follow false true false = five refl
ends_follow false false true = five refl
ends_follow false false false = five refl

-- a name, whatever parts it has, before tags that may follow any of them
name_follows : (n : NameShape) (tags end : List ℕ) → Follows5 (tags ++ end) → Follows5 (name_tags n ++ tags ++ end)
unfolding order_good follows up_from
name_follows n tags end h = go n.family n.given n.literal
  where
    go : (f g l : Bool) → Follows5 (name_tags (record { family = f; given = g; literal = l }) ++ tags ++ end)
    go true true true = five h.1.1.1.1.0
    go true false true = five h.1.1.1.1.0
    go false true true = five h.1.1.1.1.0
    go false false true = five h.1.1.1.1.0
    go true true false = five h.1.1.1.0
    go false true false = five h.1.1.1.0
    go true false false = five h.1.1.0
    go false false false = five h.1.0

names_follow : (ns : List NameShape) (end : List ℕ) → Follows5 end → Follows5 (names_tags ns ++ end)
unfolding names_tags
names_follow [] end h = h
names_follow (n ∷ ns) end h = name_follows n (names_tags ns) end (names_follow ns end h)

entry_follows : (x : EntryShape) → order_good 0 (entry_tags x) ≡ true
unfolding order_good follows up_from
entry_follows x =
    (names_follow x.names (end_tags x.year x.date x.title) (ends_follow x.year x.date x.title)).0

pub spelled_is_good : SpelledIsGood
unfolding good_from
spelled_is_good s at e x f c t =
    rw f (order_fields 0 (fields_of s at e) (subst (λ (l : List ℕ). order_good 0 l ≡ true) (sym t) (entry_follows x)) c)
