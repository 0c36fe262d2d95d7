-- The content of an annotation,
-- record by record.
use Prim.Native.Nat.{ℕ, ◌*◌, ◌≤◌, ◌<◌}
use native.Mathlib.Omega.{arith}
use mathlib.Core.Path.{◌≡◌, refl, sym, ◌∙◌, ap, subst}
use mathlib.Core.List.{List, [], ◌∷◌, ◌++◌, map, flat_map, flatten, append-nil, append_assoc}
use mathlib.Core.Bool.{Bool, true, false}
use mathlib.Core.Option.{Option, none, some}
use lib.ListN.{length, get_or, take, length-append, get_or-append}
use lib.Seq.{get_or_at, get_or-take, take_at, take-append-le}
use lib.Dec.{eqb}
use borrow.Author.Tests.{eqb-true}
use Rattle.base.specs.Pick.{pick}
use Rattle.base.specs.Fold.{fold}
use Rattle.base.specs.Spans.{span}
use Rattle.base.specs.Sorted.{Each, Sorted}
use Rattle.item.specs.declared.Item.{Item}
use Rattle.item.specs.Group.{Group}
use Rattle.records.specs.ItemRecords.{item_record, unnumbered_record, records_in, records_of}
use Rattle.records.specs.Widths.{item_width, item_label, item_label_length}
use Rattle.pool.specs.Layout.{has_pool}
use Rattle.definition_line.specs.Lines.{group_end, key_of}
use Rattle.definition.specs.Defs.{def_of}
use Rattle.label.specs.Labels.{label_text}
use Rattle.standing.specs.GroupRecords.{Placed, item_records}
use Rattle.standing.proofs.Swept.{groups_of, placed_groups}
use Rattle.records.specs.Fields.{item_field}
use Rattle.uses.proofs.Fields.{item_field_lem}
use Rattle.sweep.proofs.Laws.{item_records_length}
use Rattle.annotation.specs.Sources.{Source, number_of, use_of, used}
use Rattle.annotation.specs.Content.{Tally, tally, placed_of, label_for, cited_item, numbered, unnumbered, add_item, add_group, tally_of, content_of}
use Rattle.annotation.specs.Items.{each_item, item_keys}
use Rattle.annotation.proofs.Numbers.{sources_in_order, numbers_stay}
use Rattle.annotation.proofs.References.{references_all, references_by_number, references_by_rank}
use Rattle.annotation.proofs.Standings.{standings_stated}
use Rattle.annotation.proofs.Each.{cell_front, count_more, by_place}
use Rattle.annotation.proofs.Records.{records_numbered}
use Rattle.annotation.proofs.UsesRun.{records_used}
use Rattle.histories.specs.Said.{item_labels, label_after, Says}

-- lists ----------------------------------------------------------------------------------------------------------------------------

flatten_more : (ls : List (List ℕ)) (x : List ℕ) → flatten (ls ++ (x ∷ [])) ≡ flatten ls ++ x
unfolding flatten
flatten_more [] x = append-nil x
flatten_more (l ∷ ls) x = ap (λ (r : List ℕ). l ++ r) (flatten_more ls x) ∙ sym (append_assoc l (flatten ls) x)

-- one item more ---------------------------------------------------------------------------------------------------------------------

-- the items so far: their records as they are when looked up, their labels, and their keys where they are numbered
record So (t : Tally) (rows : List ℕ) (ls : List (List ℕ)) (is : List (Option (List ℕ))) : Type 0 where
  count : length t.records ≡ item_width * length ls
  alike : length rows ≡ item_width * length ls
  keyed : length is ≡ length ls
  found : (k c : ℕ) → k < length ls → c < 12 → item_field t.records k c ≡ item_field rows k c
  offsets : (k : ℕ) → k < length ls → item_field t.records k item_label ≡ label_after (take k ls) (get_or is k none)
  lengths : (k : ℕ) → k < length ls → item_field t.records k item_label_length ≡ length (get_or ls k [])
  joins : t.labels ≡ flatten ls

-- its record `row`, its record `flat` when looked up, its label and its key
module _ (t : Tally) (rows : List ℕ) (ls : List (List ℕ)) (is : List (Option (List ℕ))) (u : So t rows ls is) (sources : List Source)
    (row flat label : List ℕ) (key : Option (List ℕ)) (wide : length row ≡ item_width) (as_wide : length flat ≡ item_width)
    (same : take 12 row ≡ take 12 flat) (at : get_or row 14 0 ≡ label_after ls key) (long : get_or row 15 0 ≡ length label) where
  front : (k c : ℕ) → k < length ls → c < item_width → item_field (t.records ++ row) k c ≡ item_field t.records k c
  front k c h g = cell_front t.records row (length ls) k c u.count h g

  back : (c : ℕ) → item_field (t.records ++ row) (length ls) c ≡ get_or row c 0
  back c = item_field_lem t.records row (length ls) c u.count

  more : So (tally sources (t.records ++ row) (t.labels ++ label)) (rows ++ flat) (ls ++ (label ∷ [])) (is ++ (key ∷ []))
  more = record {
    count = count_more t.records row ls label u.count wide;
    alike = count_more rows flat ls label u.alike as_wide;
    keyed = omega (arith, length-append is (key ∷ []), length-append ls (label ∷ []), u.keyed);
    found = λ k c h g.
        by_place (λ k. item_field (t.records ++ row) k c ≡ item_field (rows ++ flat) k c) ls label
        (λ k l. front k c l (omega (arith, g)) ∙ u.found k c l g ∙ sym (cell_front rows flat (length ls) k c u.alike l (omega (arith, g))))
        (back c ∙ sym (get_or-take 12 row c 0 g) ∙ ap (λ (r : List ℕ). get_or r c 0) same ∙ get_or-take 12 flat c 0 g
        ∙ sym (item_field_lem rows flat (length ls) c u.alike))
        k h;
    offsets = by_place
        (λ k. item_field (t.records ++ row) k item_label ≡ label_after (take k (ls ++ (label ∷ []))) (get_or (is ++ (key ∷ [])) k none))
        ls label
        (λ k l. rw (take-append-le k ls (label ∷ []) (omega arith), get_or-append is (key ∷ []) none k (omega (arith, u.keyed)))
        (front k 14 l (omega arith) ∙ u.offsets k l))
        (rw (take_at ls (label ∷ []) (length ls) refl, get_or_at is key [] none (length ls) u.keyed) (back 14 ∙ at));
    lengths = by_place (λ k. item_field (t.records ++ row) k item_label_length ≡ length (get_or (ls ++ (label ∷ [])) k [])) ls label
        (λ k l. rw (get_or-append ls (label ∷ []) [] k l) (front k 15 l (omega arith) ∙ u.lengths k l))
        (rw (get_or_at ls label [] [] (length ls) refl) (back 15 ∙ long));
    joins = ap (λ (r : List ℕ). r ++ label) u.joins ∙ sym (flatten_more ls label);
  }

-- the groups -----------------------------------------------------------------------------------------------------------------------

module _ (text : List ℕ) (mode : ℕ) (all : List Group) (pool : List ℕ) where
  -- the label of an item of a group
  abbrev its : Placed → List Source → Item → List ℕ
  its p sources i = pick (eqb p.standing 2) (label_for text mode all pool sources i) []

  -- its key, where it is numbered
  abbrev key_of_lem : Placed → Item → Option (List ℕ)
  key_of_lem p i = pick (eqb p.standing 2) (some (key_of text i)) none

  item_so : (p : Placed) (t : Tally) (i : Item) (rows : List ℕ) (ls : List (List ℕ)) (is : List (Option (List ℕ))) → So t rows ls is
      → So (add_item text mode all pool p t i) (rows ++ unnumbered_record i) (ls ++ (its p t.sources i ∷ [])) (is ++ (key_of_lem p i ∷ []))
  unfolding add_item numbered unnumbered cited_item unnumbered_record item_record label_after
  item_so p t i rows ls is u = go (eqb p.standing 2)
    where
      label : List ℕ
      label = label_for text mode all pool t.sources i

      key : List ℕ
      key = key_of text i

      flat : List ℕ
      flat = unnumbered_record i

      go : (b : Bool)
          → So (pick b (numbered text mode all pool t i) (unnumbered t i)) (rows ++ flat)
          (ls ++ (pick b label [] ∷ [])) (is ++ (pick b (some key) none ∷ []))
      go true =
          more t rows ls is u (used key t.sources)
          (item_record i (number_of key t.sources) (use_of (has_pool pool) key t.sources) (span (length t.labels) (length label)))
          flat label (some key) refl refl refl (ap length u.joins) refl
      go false =
          subst (λ (l : List ℕ). So (tally t.sources (t.records ++ flat) l) (rows ++ flat) (ls ++ ([] ∷ [])) (is ++ (none ∷ []))) (append-nil t.labels)
          (more t rows ls is u t.sources flat flat [] none refl refl refl refl refl)

  -- it is the same by the sources at the end, whatever items and groups come after
  its_stays : (p : Placed) (t : Tally) (i : Item) (is : List Item) (ps : List Placed)
      → its p t.sources i
      ≡ its p (fold (add_group text mode all pool) (fold (add_item text mode all pool p) (add_item text mode all pool p t i) is) ps).sources i
  unfolding label_for
  its_stays p t i is ps = go (eqb p.standing 2) refl
    where
      last : List Source
      last = (fold (add_group text mode all pool) (fold (add_item text mode all pool p) (add_item text mode all pool p t i) is) ps).sources

      go : (b : Bool) → eqb p.standing 2 ≡ b
          → pick b (label_for text mode all pool t.sources i) [] ≡ pick b (label_for text mode all pool last i) []
      go true q =
          ap (λ (n : ℕ). label_text mode i.suppressed n (def_of text all pool (key_of text i)))
          (sym (numbers_stay text mode all pool p t i is ps (eqb-true p.standing 2 q)))
      go false q = refl

  items_so : (p : Placed) (more : List Item) (t : Tally) (rows : List ℕ) (ls : List (List ℕ)) (is : List (Option (List ℕ))) (ps : List Placed)
      (last : List Source)
      → (fold (add_group text mode all pool) (fold (add_item text mode all pool p) t more) ps).sources ≡ last → So t rows ls is
      → So (fold (add_item text mode all pool p) t more) (rows ++ records_in more) (ls ++ map (its p last) more)
      (is ++ map (key_of_lem p) more)
  unfolding fold flat_map
  items_so p [] t rows ls is ps last e u = rw (append-nil rows, append-nil ls, append-nil is) u
  items_so p (i ∷ more) t rows ls is ps last e u =
      rw (
        ← append_assoc rows (unnumbered_record i) (records_in more),
        ← append_assoc ls (its p last i ∷ []) (map (its p last) more),
        ← append_assoc is (key_of_lem p i ∷ []) (map (key_of_lem p) more),
        ← its_stays p t i more ps ∙ ap (λ (ss : List Source). its p ss i) e,
      )
      (items_so p more (add_item text mode all pool p t i) (rows ++ unnumbered_record i) (ls ++ (its p t.sources i ∷ []))
      (is ++ (key_of_lem p i ∷ [])) ps last e (item_so p t i rows ls is u))

  groups_so : (ps : List Placed) (t : Tally) (rows : List ℕ) (ls : List (List ℕ)) (is : List (Option (List ℕ))) (last : List Source)
      → (fold (add_group text mode all pool) t ps).sources ≡ last → So t rows ls is
      → So (fold (add_group text mode all pool) t ps) (rows ++ item_records (groups_of ps))
      (ls ++ item_labels text mode all pool last ps) (is ++ item_keys text ps)
  unfolding fold add_group flat_map each_item records_of
  groups_so [] t rows ls is last e u = rw (append-nil rows, append-nil ls, append-nil is) u
  groups_so (p ∷ ps) t rows ls is last e u =
      let labels : ls ++ item_labels text mode all pool last (p ∷ ps) ≡ (ls ++ map (its p last) p.group.items) ++ item_labels text mode all pool last ps
      = sym (append_assoc ls (map (its p last) p.group.items) (item_labels text mode all pool last ps)) in
      rw (
        ← append_assoc rows (records_in p.group.items) (item_records (groups_of ps)),
        labels,
        ← append_assoc is (map (key_of_lem p) p.group.items) (item_keys text ps),
      )
      (groups_so ps (fold (add_item text mode all pool p) t p.group.items) (rows ++ records_in p.group.items)
      (ls ++ map (its p last) p.group.items) (is ++ map (key_of_lem p) p.group.items) last e
      (items_so p p.group.items t rows ls is ps last e u))

  all_so : So (tally_of text mode all pool) (item_records all) (item_labels text mode all pool (tally_of text mode all pool).sources (placed_of text all pool))
      (item_keys text (placed_of text all pool))
  unfolding tally_of placed_of flatten
  all_so =
      subst (λ (gs : List Group). So (tally_of text mode all pool) (item_records gs) (item_labels text mode all pool (tally_of text mode all pool).sources (placed_of text all pool)) (item_keys text (placed_of text all pool)))
      (placed_groups _ text false 0 all)
      (groups_so (placed_of text all pool) (tally [] [] []) [] [] [] (tally_of text mode all pool).sources refl
      (record {
        count = refl;
        alike = refl;
        keyed = refl;
        found = λ k c h. absurd (omega arith);
        offsets = λ k h. absurd (omega arith);
        lengths = λ k h. absurd (omega arith);
        joins = refl;
      }))

  pub says : Each (λ (g : Group). g.at ≤ g.close) all → Sorted (λ (g h : Group). group_end g ≤ h.at) all
      → Says text mode pool all (content_of text mode all pool)
  unfolding content_of
  says closes apart =
      let u = all_so in
      let n = item_records_length all in
      let c = records_numbered text mode all pool in
      record {
        groups = refl;
        standings = standings_stated text all pool closes apart;
        count = omega (arith, u.count, u.alike, n);
        items = λ k c h g. u.found k c (omega (arith, u.alike, n, h)) g;
        in_order = sources_in_order text mode all pool;
        numbers = λ k h. c.cells k (omega (arith, c.count, u.count, u.alike, n, h));
        references = references_all text mode all pool (tally_of text mode all pool).sources;
        by_number = λ e. rw e (references_by_number text all pool (tally_of text 0 all pool).sources);
        by_rank = λ e. rw e (references_by_rank text all pool (tally_of text 1 all pool).sources);
        uses = λ k h. records_used text mode all pool k h;
        labels = u.joins;
        label_offsets = λ k h. u.offsets k (omega (arith, u.alike, n, h));
        label_lengths = λ k h. u.lengths k (omega (arith, u.alike, n, h));
      }
