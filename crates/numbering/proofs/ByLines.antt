-- Definitions from the records: they depend on no number, use,
-- label or standing, and are those of the paper.
use Prim.Native.Nat.{ℕ, suc, ◌+◌, ◌-◌, ◌*◌, ◌<◌}
use native.Mathlib.Omega.{arith}
use mathlib.Core.Path.{◌≡◌, refl, sym, ◌∙◌, ap}
use mathlib.Core.List.{List, [], ◌∷◌, ◌++◌, flat_map, append_assoc}
use mathlib.Core.Bool.{Bool, true, false, ◌&&◌}
use mathlib.Core.Option.{Option, none, some, or_else}
use lib.ListN.{length, length-append}
use lib.Dec.{eqb, ltb}
use borrow.Author.Tests.{lt-ltb, le-ltb, ne_eqb}
use Rattle.base.specs.Pick.{pick}
use Rattle.base.specs.LastPlace.{last}
use Rattle.base.specs.Lists.{same}
use Rattle.base.specs.Sorted.{Each}
use Rattle.item.specs.declared.Item.{Item}
use Rattle.item.specs.Group.{Group}
use Rattle.records.specs.ItemRecords.{marks_of, item_record, unnumbered_record, records_in, records_of, records_length}
use Rattle.records.specs.Widths.{item_width, group_first, group_place, group_length, group_count, group_standing, item_marks, item_prefix_length, item_locator_length}
use Rattle.records.proofs.RecordLaws.{records_length_lem}
use Rattle.pool.specs.Layout.{count_of, entry_at, entries_of}
use Rattle.standing.specs.GroupRecords.{Placed, group_record, group_records, placed_by, item_records}
use Rattle.standing.specs.Swept.{swept_from}
use Rattle.records.specs.Widths.{group_width}
use Rattle.definition_line.specs.Lines.{starts_line, colon_after, bare_item, only_key, defines, in_line, group_end, next_open, key_of, defined_key}
use Rattle.definition.specs.Defs.{Def, line_def, entry_def, defines_key, last_line, first_entry, def_of}
use Rattle.definition.specs.Lines.{defines_in, defines_key_in, line_in, line_def_in, LinesBelow}
use Rattle.std.specs.Prelude.{Option as Answer, Some, None}
use Rattle.definition.specs.declared.defined.Definition.{Definition}
use Rattle.definition.specs.declared.defined.Definition.TheVariants.{Line, Entry}
use Rattle.definition.specs.Defined.{defined_as, found_in}
use Rattle.definition.specs.Definitions.{definition_in}
use Rattle.definition.specs.Entries.{entry_in}
use Rattle.definition.proofs.EntryLaws.{first_entry_lem}
use Rattle.records.specs.Records.{key_in, suppressed_in, bare_in, close_of_record, next_in}
use Rattle.records.specs.Fields.{group_field}
use Rattle.base.proofs.Lasts.{last_from, last_from_lem, last_same}
use Rattle.standing.proofs.Swept.{groups_of, placed_groups, placed_length}
use Rattle.uses.proofs.Fields.{item_field_lem, group_field_lem, SameItems, SameGroups}

-- areas whose records agree, but for numbers, uses, labels and standings -------------------------------------------------------------

pub key_same : (text items others : List ℕ) (k : ℕ) → SameItems items others → key_in text items k ≡ key_in text others k
unfolding key_in
key_same text items others k h = rw (h k 2 (omega arith), h k 3 (omega arith))

bare_same : (items others : List ℕ) (k : ℕ) → SameItems items others → bare_in items k ≡ bare_in others k
unfolding bare_in suppressed_in
bare_same items others k h = rw (h k 1 (omega arith), h k 5 (omega arith), h k 11 (omega arith))

close_same : (groups others : List ℕ) (g : ℕ) → SameGroups groups others → close_of_record groups g ≡ close_of_record others g
unfolding close_of_record
close_same groups others g h = rw (h g 0 (omega arith), h g 1 (omega arith))

module _ (text groups other_groups items other_items : List ℕ) (h : SameGroups groups other_groups) (i : SameItems items other_items) where
  starts_same : (g : ℕ) → defines_in text groups items g ≡ defines_in text other_groups other_items g
  unfolding defines_in
  starts_same g =
      rw (
        h g 0 (omega arith),
        h g 3 (omega arith),
        h g 2 (omega arith),
        close_same groups other_groups g h,
        bare_same items other_items (group_field other_groups g group_first) i,
      )

  pub lines_same : {n lines : ℕ} → LinesBelow text other_groups other_items n lines → LinesBelow text groups items n lines
  lines_same b = record { bounded = b.bounded; none = λ g l u. starts_same g ∙ b.none g l u }

  defines_same : (key : List ℕ) (g : ℕ) → defines_key_in text groups items key g ≡ defines_key_in text other_groups other_items key g
  unfolding defines_key_in
  defines_same key g =
      rw (starts_same g, h g 2 (omega arith), key_same text items other_items (group_field other_groups g group_first) i)

  line_same : (n g : ℕ) → line_def_in text groups n g ≡ line_def_in text other_groups n g
  unfolding line_def_in next_in
  line_same n g = rw (close_same groups other_groups g h, h (g + 1) 0 (omega arith))

  as_same : (n : ℕ) (pool : List ℕ) (d : Answer Definition) → defined_as text groups n pool d ≡ defined_as text other_groups n pool d
  unfolding defined_as
  as_same n pool (Some (Line g)) = rw (line_same n g) refl
  as_same n pool (Some (Entry i)) = refl
  as_same n pool None = refl

  pub definition_same : (n : ℕ) (pool key : List ℕ)
      → definition_in text groups items n pool key ≡ definition_in text other_groups other_items n pool key
  unfolding definition_in found_in line_in
  definition_same n pool key =
      let e = last_same (defines_key_in text groups items key) (defines_key_in text other_groups other_items key) n n (λ j l. defines_same key j) in
      rw e (as_same n pool (found_in text other_groups other_items n pool key))

-- one item and one group -------------------------------------------------------------------------------------------------------------

-- the record of an item, after `k` others
module _ (text before : List ℕ) (i : Item) (after : List ℕ) (k : ℕ) (h : length before ≡ item_width * k) where
  pub key_at_lem : key_in text (before ++ (unnumbered_record i ++ after)) k ≡ key_of text i
  unfolding key_in unnumbered_record item_record
  key_at_lem =
      let here : List ℕ = unnumbered_record i ++ after in
      rw (item_field_lem before here k 2 h, item_field_lem before here k 3 h)

  pub suppressed_at : suppressed_in (before ++ (unnumbered_record i ++ after)) k ≡ i.suppressed
  unfolding suppressed_in unnumbered_record item_record marks_of
  suppressed_at = rw (item_field_lem before (unnumbered_record i ++ after) k item_marks h) (go i.suppressed)
    where
      go : (s : Bool) → eqb (pick s 1 0) 1 ≡ s
      go true = refl
      go false = refl

  bare_at : bare_in (before ++ (unnumbered_record i ++ after)) k ≡ bare_item i
  unfolding bare_in bare_item unnumbered_record item_record marks_of
  bare_at =
      let here : List ℕ = unnumbered_record i ++ after in
      rw (suppressed_at, item_field_lem before here k item_prefix_length h, item_field_lem before here k item_locator_length h)

-- "a group of one item, no prefix, no locator, not suppressed", and its key
one_key : (text key before : List ℕ) (is : List Item) (after : List ℕ) (k : ℕ) (s c : Bool) → length before ≡ item_width * k
    → (s && eqb (length is) 1 && bare_in (before ++ (records_in is ++ after)) k && c)
    && same (key_in text (before ++ (records_in is ++ after)) k) key
    ≡ (s && only_key is && c) && same (defined_key text is) key
unfolding only_key defined_key flat_map
one_key text key before [] after k true c h = refl
one_key text key before [] after k false c h = refl
one_key text key before (i ∷ []) after k s c h =
    rw (append_assoc (unnumbered_record i) [] after, key_at_lem text before i ([] ++ after) k h, bare_at text before i ([] ++ after) k h)
    (go s)
  where
    go : (t : Bool) → (t && true && bare_item i && c) && same (key_of text i) key ≡ (t && bare_item i && c) && same (key_of text i) key
    go true = refl
    go false = refl
one_key text key before (i ∷ j ∷ more) after k s c h = rw (ne_eqb (suc (suc (length more))) 1 (λ e. omega arith)) (go s)
  where
    go : (t : Bool)
        → (t && false && bare_in (before ++ (records_in (i ∷ j ∷ more) ++ after)) k && c)
        && same (key_in text (before ++ (records_in (i ∷ j ∷ more) ++ after)) k) key
        ≡ (t && false && c) && same (key_of text i) key
    go true = refl
    go false = refl

-- the groups, one after the other ----------------------------------------------------------------------------------------------------

pub regroup : (a b c d : List ℕ) → a ++ ((b ++ c) ++ d) ≡ (a ++ b) ++ (c ++ d)
regroup a b c d = simp append_assoc

-- a group that closes after it opens
abbrev pub Closes : Group → Type 0
Closes g = g.at < g.close

-- where the records of groups lie in the areas: after `g` group records and `k` item records
pub record LieAt (groups items : List ℕ) (g k : ℕ) (ps : List Placed) (before_groups after_groups before_items after_items : List ℕ) : Type 0 where
  pub gcount : length before_groups ≡ group_width * g
  pub icount : length before_items ≡ item_width * k
  pub gis : groups ≡ before_groups ++ (group_records k ps ++ after_groups)
  pub iis : items ≡ before_items ++ (item_records (groups_of ps) ++ after_items)

module _ (groups items : List ℕ) (g k : ℕ) (p : Placed) (ps : List Placed) (gb ga ib ia : List ℕ) (l : LieAt groups items g k (p ∷ ps) gb ga ib ia) where
  -- the group after the first
  pub lie_next : LieAt groups items (g + 1) (k + length p.group.items) ps (gb ++ group_record k p) ga (ib ++ records_of p.group) ia
  unfolding group_records group_record flat_map records_of records_length
  lie_next = record {
    gcount = omega (arith, length-append gb (group_record k p), l.gcount);
    icount = omega (arith, length-append ib (records_of p.group), records_length_lem p.group, l.icount);
    gis = l.gis ∙ regroup gb (group_record k p) (group_records (k + length p.group.items) ps) ga;
    iis = l.iis ∙ regroup ib (records_of p.group) (item_records (groups_of ps)) ia;
  }

  -- the first
  group_at : group_field groups g group_place ≡ p.group.at
  unfolding group_records group_record
  group_at = rw l.gis (group_field_lem gb (group_records k (p ∷ ps) ++ ga) g 0 l.gcount)

  group_len : group_field groups g group_length ≡ group_end p.group - p.group.at
  unfolding group_records group_record
  group_len = rw l.gis (group_field_lem gb (group_records k (p ∷ ps) ++ ga) g 1 l.gcount)

  pub first_item_lies : group_field groups g group_first ≡ k
  unfolding group_records group_record
  first_item_lies = rw l.gis (group_field_lem gb (group_records k (p ∷ ps) ++ ga) g 2 l.gcount)

  pub item_count_lies : group_field groups g group_count ≡ length p.group.items
  unfolding group_records group_record
  item_count_lies = rw l.gis (group_field_lem gb (group_records k (p ∷ ps) ++ ga) g 3 l.gcount)

  pub standing_lies : group_field groups g group_standing ≡ p.standing
  unfolding group_records group_record
  standing_lies = rw l.gis (group_field_lem gb (group_records k (p ∷ ps) ++ ga) g 4 l.gcount)

  group_close : Closes p.group → close_of_record groups g ≡ p.group.close
  unfolding close_of_record
  group_close h = rw (group_at, group_len) (omega arith)

  group_defines : (text key : List ℕ) → Closes p.group → defines_key_in text groups items key g ≡ defines_key text key p.group
  unfolding defines_key_in defines_in defines_key defines flat_map records_of
  group_defines text key h =
      rw (group_at, item_count_lies, first_item_lies, group_close h, l.iis, append_assoc (records_of p.group) (item_records (groups_of ps)) ia)
      (one_key text key ib p.group.items (item_records (groups_of ps) ++ ia) k
      (starts_line text p.group.at) (colon_after text p.group.close) l.icount)

-- where the next group begins
next_at_lem : (text groups items : List ℕ) (g k n : ℕ) (ps : List Placed) (gb ga ib ia : List ℕ) → LieAt groups items (g + 1) k ps gb ga ib ia
    → g + 1 + length ps ≡ n → next_in text groups n g ≡ next_open text (groups_of ps)
unfolding next_in
next_at_lem text groups items g k n [] gb ga ib ia l h = rw (le-ltb (g + 1) n (omega arith))
next_at_lem text groups items g k n (q ∷ qs) gb ga ib ia l h = rw (lt-ltb (g + 1) n (omega arith)) (group_at groups items (g + 1) k q qs gb ga ib ia l)

module _ (text groups items : List ℕ) (n : ℕ) (key : List ℕ) where
  -- the definition that a search for a line came to
  abbrev given : ℕ → Option Def
  given j = pick (ltb j n) (some (line_def_in text groups n j)) none

  lines_agree : (ps : List Placed) (g k acc : ℕ) (gb ga ib ia : List ℕ) → LieAt groups items g k ps gb ga ib ia → g + length ps ≡ n
      → Each (λ (p : Placed). Closes p.group) ps
      → last_line text key g (given acc) (groups_of ps) ≡ given (last_from (defines_key_in text groups items key) (length ps) g acc)
  unfolding last_line last_from line_def_in
  lines_agree [] g k acc gb ga ib ia l e c = refl
  lines_agree (p ∷ ps) g k acc gb ga ib ia l e c =
      ap (λ (d : Option Def). last_line text key (g + 1) d (groups_of ps)) (go (defines_key text key p.group) _ (group_defines groups items g k p ps gb ga ib ia l text key c.0))
      ∙ lines_agree ps (g + 1) (k + length p.group.items) _ _ ga _ ia next (omega arith) c.1
    where
      next : LieAt groups items (g + 1) (k + length p.group.items) ps (gb ++ group_record k p) ga (ib ++ records_of p.group) ia
      next = lie_next groups items g k p ps gb ga ib ia l

      line : line_def_in text groups n g ≡ line_def text g p.group.close (next_open text (groups_of ps))
      line = rw (
        group_close groups items g k p ps gb ga ib ia l c.0,
        next_at_lem text groups items g _ n ps _ ga _ ia next (omega arith),
      )

      go : (t u : Bool) → u ≡ t
          → pick t (some (line_def text g p.group.close (next_open text (groups_of ps)))) (given acc) ≡ given (pick u g acc)
      go true u q = rw (q, lt-ltb g n (omega arith), line)
      go false u q = rw q

-- the definition of a key is that of the paper
pub definition_placed : (text groups items : List ℕ) (ps : List Placed) (ga ia pool key : List ℕ) → LieAt groups items 0 0 ps [] ga [] ia
    → Each (λ (p : Placed). Closes p.group) ps
    → definition_in text groups items (length ps) pool key ≡ def_of text (groups_of ps) pool key
unfolding definition_in defined_as found_in line_in def_of or_else last
definition_placed text groups items ps ga ia pool key l c =
    go (ltb found n) refl (ltb entry (count_of pool)) ∙ ap (or_else (given text groups items n key found)) (sym (first_entry_lem pool key))
    ∙ ap (λ (d : Option Def). or_else d pooled) (sym lines)
  where
    n : ℕ
    n = length ps

    test : ℕ → Bool
    test = defines_key_in text groups items key

    found : ℕ
    found = last test n n

    pooled : Option Def
    pooled = first_entry key 0 (entries_of pool)

    up : last_from test n 0 n ≡ found
    up = let e : 0 + n ≡ n = omega arith in sym (last_from_lem test n 0 n) ∙ ap (λ (k : ℕ). last test k n) e

    lines : last_line text key 0 none (groups_of ps) ≡ given text groups items n key found
    lines =
        let z : ltb n n ≡ false = le-ltb n n (omega arith) in
        ap (λ (b : Bool). last_line text key 0 (pick b (some (line_def_in text groups n n)) none) (groups_of ps)) (sym z)
        ∙ lines_agree text groups items n key ps 0 0 n [] ga [] ia l (omega arith) c
        ∙ ap (given text groups items n key) up

    entry : ℕ
    entry = entry_in pool key

    go : (t : Bool) → ltb found n ≡ t → (u : Bool)
        → defined_as text groups n pool (pick t (Some (Line found)) (pick u (Some (Entry entry)) None))
        ≡ or_else (pick (ltb found n) (some (line_def_in text groups n found)) none) (pick u (some (entry_def entry (entry_at pool entry))) none)
    go true q u = rw q
    go false q true = rw q
    go false q false = rw q

-- the records that a sweep leaves ----------------------------------------------------------------------------------------------------

swept_each : (P : Group → Type 0) (text : List ℕ) (before : Bool) (from : ℕ) (gs : List Group) → Each P gs
    → Each (λ (p : Placed). P p.group) (swept_from text before from gs)
unfolding placed_by
swept_each P text before from [] h = tt
swept_each P text before from (g ∷ gs) h = (h.0, swept_each P text (in_line text before from g) (group_end g) gs h.1)

pub lie_swept : (text : List ℕ) (all : List Group) (rest_g rest_i : List ℕ)
    → LieAt (group_records 0 (swept_from text false 0 all) ++ rest_g) (item_records all ++ rest_i) 0 0 (swept_from text false 0 all) [] rest_g [] rest_i
lie_swept text all rest_g rest_i = record {
  gcount = refl;
  icount = refl;
  gis = refl;
  iis = ap (λ (gs : List Group). item_records gs ++ rest_i) (sym (placed_groups _ text false 0 all));
}

pub definition_swept : (text : List ℕ) (all : List Group) (rest_g rest_i pool key : List ℕ) → Each Closes all
    → definition_in text (group_records 0 (swept_from text false 0 all) ++ rest_g) (item_records all ++ rest_i) (length all) pool key ≡ def_of text all pool key
definition_swept text all rest_g rest_i pool key h =
    ap (λ (n : ℕ). definition_in text (group_records 0 (swept_from text false 0 all) ++ rest_g) (item_records all ++ rest_i) n pool key)
    (sym (placed_length _ text false 0 all))
    ∙ definition_placed text _ _ (swept_from text false 0 all) rest_g rest_i pool key (lie_swept text all rest_g rest_i) (swept_each Closes text false 0 all h)
    ∙ ap (λ (gs : List Group). def_of text gs pool key) (placed_groups _ text false 0 all)
