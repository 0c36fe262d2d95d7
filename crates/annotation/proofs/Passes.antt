-- THEOREMS `DefinitionsAgree` and `NumbersAgree`: the pass
-- that numbers the records, against the tally of the paper.
use Prim.Native.Nat.{ℕ, zero, suc, ◌+◌, ◌*◌, ◌≤◌, ◌<◌}
use native.Mathlib.Omega.{arith}
use native.Mathlib.Numerals.{add-one}
use mathlib.Core.Path.{◌≡◌, refl, sym, ◌∙◌, ap, subst}
use mathlib.Core.List.{List, [], ◌∷◌, ◌++◌, flat_map, append_assoc}
use mathlib.Core.Bool.{Bool, true, false, ◌&&◌, not, true≢false}
use lib.ListN.{length, get_or, set, length-append}
use lib.Dec.{eqb}
use borrow.Author.Tests.{eqb-true}
use Rattle.base.specs.Pick.{pick}
use Rattle.base.specs.Fold.{fold}
use Rattle.base.specs.Spans.{span, missing}
use Rattle.base.proofs.Alls.{each_map}
use Rattle.item.specs.declared.Item.{Item}
use Rattle.item.specs.Group.{Group}
use Rattle.records.specs.ItemRecords.{item_record, unnumbered_record, records_in, records_of}
use Rattle.records.specs.Widths.{item_width, group_first, group_count, group_standing}
use Rattle.pool.specs.Layout.{has_pool}
use Rattle.definition_line.specs.Lines.{in_line, group_end, key_of}
use Rattle.definition.specs.Defs.{def_of, is_defined}
use Rattle.standing.specs.GroupRecords.{Placed, placed, group_record, group_records, placed_by, item_records, item_count}
use Rattle.standing.specs.Swept.{swept_from}
use Rattle.records.specs.Widths.{group_width}
use Rattle.standing.proofs.Swept.{placed_groups}
use Rattle.definition.specs.Definitions.{definition_in}
use Rattle.records.specs.Records.{key_in, suppressed_in}
use Rattle.records.specs.Fields.{item_field, group_field}
use Rattle.numbering.specs.Numbers.{Numbered, start, label_in, cite_as, cite_in, cite_from, key_defined, keys_defined, stands_numbered, is_numbered, number_group, number_from, number_all}
use Rattle.uses.specs.Uses.{number_in, use_in, sources_in}
use Rattle.uses.proofs.Fields.{item_field_lem, set_last_lem, set_standing, SameItems, SameGroups, set_last_same, set_standing_same, set_last_other}
use Rattle.numbering.proofs.ByLines.{key_same, definition_same, key_at_lem, suppressed_at, regroup, Closes, LieAt, first_item_lies, item_count_lies, standing_lies, definition_swept}
use Rattle.annotation.specs.Sources.{number_of, use_of, used}
use Rattle.annotation.specs.Content.{Tally, tally, all_defined, standing_of, placed_from, placed_of, label_for, cited_item, numbered, unnumbered, add_item, add_group, tally_of}
use Rattle.annotation.specs.Steps.{Fits, swept_items, swept_groups, numbered_from, DefinitionsAgree, NumbersAgree}
use Rattle.annotation.proofs.Joins.{Joined, joined_none, joined_on, joined_cite, number_agrees, use_agrees, sources_agree}

-- the tally `t` of the first `k` items and the records of state `s` agree; `rest` is what the item area holds after their records, and
-- `groups₀` and `items₀` are the areas as the sweep left them
pub record Agrees (text : List ℕ) (pooled : Bool) (groups₀ items₀ : List ℕ) (t : Tally) (s : Numbered) (k : ℕ) (rest : List ℕ) : Type 0 where
  pub items : s.items ≡ t.records ++ rest
  pub count : length t.records ≡ item_width * k
  pub labels : s.labels ≡ t.labels
  pub sources : s.sources ≡ length t.sources
  pub joined : Joined text s.items pooled k t.sources
  pub same_items : SameItems s.items items₀
  pub same_groups : SameGroups s.groups groups₀

module _ (text : List ℕ) (mode : ℕ) (pool : List ℕ) (n : ℕ) (all : List Group) (groups₀ items₀ : List ℕ)
    (defs : (key : List ℕ) → definition_in text groups₀ items₀ n pool key ≡ def_of text all pool key) where
  abbrev Ag : Tally → Numbered → ℕ → List ℕ → Type 0
  Ag = Agrees text (has_pool pool) groups₀ items₀

  -- definitions are still the same
  defined_as_lem : (s : Numbered) → SameItems s.items items₀ → SameGroups s.groups groups₀ → (key : List ℕ)
      → definition_in text s.groups s.items n pool key ≡ def_of text all pool key
  defined_as_lem s i g key = definition_same text s.groups groups₀ s.items items₀ g i n pool key ∙ defs key

  -- one more item of a numbered group
  module _ (t : Tally) (s : Numbered) (k : ℕ) (i : Item) (rest : List ℕ) (small : k < 65535)
      (a : Ag t s k (unnumbered_record i ++ rest)) where
    its_key : key_in text s.items k ≡ key_of text i
    its_key = rw a.items (key_at_lem text t.records i rest k a.count)

    its_number : number_in text s.items s.sources k ≡ number_of (key_of text i) t.sources
    its_number =
        rw a.sources
        (number_agrees text s.items (has_pool pool) k t.sources a.joined small ∙ ap (λ (x : List ℕ). number_of x t.sources) its_key)

    its_use : use_in text s.items (has_pool pool) k ≡ use_of (has_pool pool) (key_of text i) t.sources
    its_use =
        use_agrees text s.items (has_pool pool) k t.sources a.joined small
        ∙ ap (λ (x : List ℕ). use_of (has_pool pool) x t.sources) its_key

    its_sources : sources_in text s.items s.sources k ≡ length (used (key_of text i) t.sources)
    its_sources =
        rw a.sources
        (sources_agree text s.items (has_pool pool) k t.sources a.joined small
        ∙ ap (λ (x : List ℕ). length (used x t.sources)) its_key)

    its_suppressed : suppressed_in s.items k ≡ i.suppressed
    its_suppressed = rw a.items (suppressed_at text t.records i rest k a.count)

    its_label : label_in text mode pool n s k ≡ label_for text mode all pool t.sources i
    unfolding label_in label_for
    its_label = rw (its_number, its_key, its_suppressed, defined_as_lem s a.same_items a.same_groups (key_of text i))

    -- its record
    its_record : List ℕ
    its_record =
        item_record i (number_of (key_of text i) t.sources) (use_of (has_pool pool) (key_of text i) t.sources)
        (span (length t.labels) (length (label_for text mode all pool t.sources i)))

    its_length : length its_record ≡ item_width
    unfolding its_record item_record
    its_length = refl

    its_items : (cite_in text mode pool n s k).items ≡ t.records ++ (its_record ++ rest)
    unfolding cite_in cite_as unnumbered_record its_record
    its_items =
        rw (its_number, its_use, its_label, a.labels, a.items)
        (set_last_lem t.records i 0 0 missing rest k _ _ _ _ a.count)

    its_field : (c : ℕ) → item_field (cite_in text mode pool n s k).items k c ≡ get_or (its_record ++ rest) c 0
    its_field c = rw its_items (item_field_lem t.records (its_record ++ rest) k c a.count)

    its_joined : Joined text (cite_in text mode pool n s k).items (has_pool pool) (suc k) (used (key_of text i) t.sources)
    unfolding cite_in cite_as its_record item_record use_of
    its_joined =
        joined_cite text s.items _ (has_pool pool) k t.sources (key_of text i) a.joined
        (λ j c h l. set_last_other s.items k _ _ _ _ j c (λ e. omega arith) l)
        (key_same text _ s.items k (set_last_same s.items k _ _ _ _) ∙ its_key)
        (its_field 12)
        (λ p. its_field 13 ∙ rw p)

    cite_agrees : Ag (numbered text mode all pool t i) (cite_in text mode pool n s k) (k + 1) rest
    unfolding cite_in cite_as numbered cited_item its_record
    cite_agrees = record {
      items = its_items ∙ sym (append_assoc t.records its_record rest);
      count = omega (arith, length-append t.records its_record, its_length, a.count);
      labels = ap (λ (l : List ℕ). l ++ label_in text mode pool n s k) a.labels ∙ ap (λ (l : List ℕ). t.labels ++ l) its_label;
      sources = its_sources;
      joined = rw (add-one k) its_joined;
      same_items = λ j c h. set_last_same s.items k _ _ _ _ j c h ∙ a.same_items j c h;
      same_groups = a.same_groups;
    }

  -- one more item of another group
  on_agrees : (t : Tally) (s : Numbered) (k : ℕ) (i : Item) (rest : List ℕ) → Ag t s k (unnumbered_record i ++ rest)
      → Ag (unnumbered t i) s (k + 1) rest
  unfolding unnumbered unnumbered_record item_record
  on_agrees t s k i rest a = record {
    items = a.items ∙ sym (append_assoc t.records (unnumbered_record i) rest);
    count = omega (arith, length-append t.records (unnumbered_record i), a.count);
    labels = a.labels;
    sources = a.sources;
    joined =
        rw (add-one k)
        (joined_on text s.items (has_pool pool) k t.sources
        (rw a.items (item_field_lem t.records (unnumbered_record i ++ rest) k 12 a.count))
        a.joined);
    same_items = a.same_items;
    same_groups = a.same_groups;
  }

  -- the items of a group
  add_numbered : (p : Placed) (t : Tally) (i : Item) → eqb p.standing 2 ≡ true
      → add_item text mode all pool p t i ≡ numbered text mode all pool t i
  unfolding add_item
  add_numbered p t i q = rw q

  add_unnumbered : (p : Placed) (t : Tally) (i : Item) → eqb p.standing 2 ≡ false
      → add_item text mode all pool p t i ≡ unnumbered t i
  unfolding add_item
  add_unnumbered p t i q = rw q

  cites_agree : (p : Placed) (is : List Item) (t : Tally) (s : Numbered) (k : ℕ) (rest : List ℕ) → eqb p.standing 2 ≡ true
      → k + length is ≤ 65535 → Ag t s k (records_in is ++ rest)
      → Ag (fold (add_item text mode all pool p) t is) (cite_from text mode pool n (length is) s k) (k + length is) rest
  unfolding fold cite_from flat_map
  cites_agree p [] t s k rest q l a = let e : k ≡ k + 0 = omega arith in subst (λ (m : ℕ). Ag t s m rest) e a
  cites_agree p (i ∷ is) t s k rest q l a =
      let e : k + 1 + length is ≡ k + suc (length is) = omega arith in
      subst (λ (m : ℕ). Ag (fold (add_item text mode all pool p) (add_item text mode all pool p t i) is) (cite_from text mode pool n (length is) (cite_in text mode pool n s k) (k + 1)) m rest) e
      (cites_agree p is (add_item text mode all pool p t i) (cite_in text mode pool n s k) (k + 1) rest q (omega arith) one)
    where
      one : Ag (add_item text mode all pool p t i) (cite_in text mode pool n s k) (k + 1) (records_in is ++ rest)
      one =
          rw (add_numbered p t i q)
          (cite_agrees t s k i (records_in is ++ rest) (omega arith)
          (rw (append_assoc (unnumbered_record i) (records_in is) rest) at a))

  passes_agree : (p : Placed) (is : List Item) (t : Tally) (s : Numbered) (k : ℕ) (rest : List ℕ) → eqb p.standing 2 ≡ false
      → Ag t s k (records_in is ++ rest)
      → Ag (fold (add_item text mode all pool p) t is) s (k + length is) rest
  unfolding fold flat_map
  passes_agree p [] t s k rest q a = let e : k ≡ k + 0 = omega arith in subst (λ (m : ℕ). Ag t s m rest) e a
  passes_agree p (i ∷ is) t s k rest q a =
      let e : k + 1 + length is ≡ k + suc (length is) = omega arith in
      subst (λ (m : ℕ). Ag (fold (add_item text mode all pool p) (add_item text mode all pool p t i) is) s m rest) e
      (passes_agree p is (add_item text mode all pool p t i) s (k + 1) rest q one)
    where
      one : Ag (add_item text mode all pool p t i) s (k + 1) (records_in is ++ rest)
      one =
          rw (add_unnumbered p t i q)
          (on_agrees t s k i (records_in is ++ rest)
          (rw (append_assoc (unnumbered_record i) (records_in is) rest) at a))

  -- the group records stay
  cites_groups : (m : ℕ) (s : Numbered) (k : ℕ) → (cite_from text mode pool n m s k).groups ≡ s.groups
  unfolding cite_from cite_in cite_as
  cites_groups zero s k = refl
  cites_groups (suc m) s k = cites_groups m (cite_in text mode pool n s k) (k + 1)

  -- every key of a group is defined
  defined_agrees : (is : List Item) (before rest : List ℕ) (s : Numbered) (k : ℕ) → length before ≡ item_width * k
      → s.items ≡ before ++ (records_in is ++ rest) → SameItems s.items items₀ → SameGroups s.groups groups₀
      → keys_defined text pool s.groups s.items n (length is) k ≡ all_defined text all pool is
  unfolding keys_defined key_defined all_defined flat_map unnumbered_record item_record
  defined_agrees [] before rest s k h e si sg = refl
  defined_agrees (i ∷ is) before rest s k h e si sg =
      rw (its, defined_as_lem s si sg (key_of text i))
      (ap (λ (b : Bool). is_defined (def_of text all pool (key_of text i)) && b)
      (defined_agrees is (before ++ unnumbered_record i) rest s (k + 1) (omega (arith, length-append before (unnumbered_record i)))
      (e ∙ regroup before (unnumbered_record i) (records_in is) rest) si sg))
    where
      its : key_in text s.items k ≡ key_of text i
      its =
          rw (e, append_assoc (unnumbered_record i) (records_in is) rest)
          (key_at_lem text before i (records_in is ++ rest) k h)

  -- the groups from `gs` on are still to be numbered: `g` group records, `done`, and `k` items are before them
  record Stands (rest_items rest_groups : List ℕ) (t : Tally) (s : Numbered) (g k : ℕ) (done : List ℕ) (before : Bool) (from : ℕ) (gs : List Group) : Type 0 where
    agrees : Ag t s k (item_records gs ++ rest_items)
    count : length done ≡ group_width * g
    groups : s.groups ≡ done ++ (group_records k (swept_from text before from gs) ++ rest_groups)

  -- one group
  module _ (rest_items rest_groups : List ℕ) (t : Tally) (s : Numbered) (g k : ℕ) (done : List ℕ) (before : Bool) (from : ℕ) (x : Group) (gs : List Group)
      (a : Stands rest_items rest_groups t s g k done before from (x ∷ gs)) where
    inside : Bool
    inside = in_line text before from x

    defined : Bool
    defined = all_defined text all pool x.items

    -- the group records after its own
    more : List ℕ
    more = group_records (k + length x.items) (swept_from text inside (group_end x) gs)

    -- its record and its items, as the sweep left them
    group_is : s.groups ≡ done ++ (group_record k (placed x (pick inside 0 1)) ++ (more ++ rest_groups))
    unfolding inside more group_records placed_by
    group_is = a.groups ∙ ap (λ (l : List ℕ). done ++ l) (append_assoc (group_record k (placed x (pick inside 0 1))) more rest_groups)

    items_are : item_records (x ∷ gs) ++ rest_items ≡ records_in x.items ++ (item_records gs ++ rest_items)
    unfolding flat_map records_of
    items_are = append_assoc (records_in x.items) (item_records gs) rest_items

    here : Ag t s k (records_in x.items ++ (item_records gs ++ rest_items))
    here = subst (λ (l : List ℕ). Ag t s k l) items_are a.agrees

    lies : LieAt s.groups s.items g k (placed x (pick inside 0 1) ∷ swept_from text inside (group_end x) gs) done rest_groups t.records rest_items
    unfolding inside placed_by
    lies = record {
      gcount = a.count;
      icount = a.agrees.count;
      gis = a.groups;
      iis =
          a.agrees.items
          ∙ ap (λ (hs : List Group). t.records ++ (item_records hs ++ rest_items)) (sym (placed_groups (λ before g. pick before 0 1) text before from (x ∷ gs)));
    }

    field_first : group_field s.groups g group_first ≡ k
    field_first = first_item_lies s.groups s.items g k _ _ done rest_groups t.records rest_items lies

    field_items : group_field s.groups g group_count ≡ length x.items
    field_items = item_count_lies s.groups s.items g k _ _ done rest_groups t.records rest_items lies

    field_standing : group_field s.groups g group_standing ≡ pick inside 0 1
    field_standing = standing_lies s.groups s.items g k _ _ done rest_groups t.records rest_items lies

    -- whether it is numbered
    numbered_as : is_numbered text mode pool n s g ≡ eqb (standing_of inside defined) 2
    unfolding is_numbered standing_of defined
    numbered_as =
        rw (
          field_standing,
          field_items,
          field_first,
          defined_agrees x.items t.records (item_records gs ++ rest_items) s k here.count here.items here.same_items here.same_groups,
        )
        (go inside (all_defined text all pool x.items))
      where
        go : (i d : Bool) → not (eqb (pick i 0 1) 0) && d ≡ eqb (pick i 0 (pick d 2 1)) 2
        go true true = refl
        go true false = refl
        go false true = refl
        go false false = refl

    -- with its standing at 2
    standing : Numbered
    standing = stands_numbered text mode pool n s g

    numbers_as : number_group text mode pool n s g ≡ pick (eqb (standing_of inside defined) 2) (cite_from text mode pool n (length x.items) standing k) s
    unfolding number_group standing
    numbers_as = rw (numbered_as, field_items, field_first)

    stands_agrees : Ag t standing k (records_in x.items ++ (item_records gs ++ rest_items))
    unfolding standing stands_numbered
    stands_agrees = record {
      items = here.items;
      count = here.count;
      labels = here.labels;
      sources = here.sources;
      joined = here.joined;
      same_items = here.same_items;
      same_groups = λ j c h. set_standing_same s.groups g 2 j c h ∙ here.same_groups j c h;
    }

    stands_groups : standing.groups ≡ done ++ (group_record k (placed x 2) ++ (more ++ rest_groups))
    unfolding standing stands_numbered
    stands_groups =
        ap (λ (l : List ℕ). set l (group_width * g + group_standing) 2) group_is
        ∙ set_standing done (placed x (pick inside 0 1)) (more ++ rest_groups) g k 2 a.count

    -- the group with its standing
    its_place : Placed
    its_place = placed x (standing_of inside defined)

    its_groups : (s' : Numbered) → s'.groups ≡ done ++ (group_record k its_place ++ (more ++ rest_groups))
        → s'.groups ≡ (done ++ group_record k its_place) ++ (more ++ rest_groups)
    its_groups s' e = e ∙ sym (append_assoc done (group_record k its_place) (more ++ rest_groups))

    its_count : length (done ++ group_record k its_place) ≡ group_width * (g + 1)
    unfolding group_record
    its_count = omega (arith, length-append done (group_record k its_place), a.count)

    group_agrees : k + length x.items ≤ 65535
        → Stands rest_items rest_groups (add_group text mode all pool t its_place) (number_group text mode pool n s g) (g + 1) (k + length x.items)
        (done ++ group_record k its_place) (in_line text before from x) (group_end x) gs
    unfolding add_group standing_of inside more its_place
    group_agrees small = subst (λ (s' : Numbered). Then s') (sym numbers_as) (go (eqb (standing_of inside defined) 2) refl)
      where
        Then : Numbered → Type 0
        Then s' =
            Stands rest_items rest_groups (add_group text mode all pool t its_place) s' (g + 1) (k + length x.items)
            (done ++ group_record k its_place) (in_line text before from x) (group_end x) gs

        unchanged : (i d : Bool) → eqb (pick i 0 (pick d 2 1)) 2 ≡ false → ◌≡◌ {A = ℕ} (pick i 0 1) (pick i 0 (pick d 2 1))
        unchanged true d q = refl
        unchanged false true q = absurd (true≢false q)
        unchanged false false q = refl

        go : (b : Bool) → eqb (standing_of inside defined) 2 ≡ b → Then (pick b (cite_from text mode pool n (length x.items) standing k) s)
        go true q = record {
          agrees = cites_agree its_place x.items t standing k (item_records gs ++ rest_items) q small stands_agrees;
          count = its_count;
          groups =
              its_groups (cite_from text mode pool n (length x.items) standing k)
              (cites_groups (length x.items) standing k
              ∙ stands_groups
              ∙ ap (λ (m : ℕ). done ++ (group_record k (placed x m) ++ (more ++ rest_groups))) (sym (eqb-true (standing_of inside defined) 2 q)));
        }
        go false q = record {
          agrees = passes_agree its_place x.items t s k (item_records gs ++ rest_items) q here;
          count = its_count;
          groups =
              its_groups s
              (group_is
              ∙ ap (λ (m : ℕ). done ++ (group_record k (placed x m) ++ (more ++ rest_groups))) (unchanged inside defined q));
        }

  -- all groups
  record Ended (rest_items rest_groups : List ℕ) (t : Tally) (s : Numbered) (k : ℕ) (done : List ℕ) (m : ℕ) (ps : List Placed) : Type 0 where
    agrees : Ag t s m rest_items
    groups : s.groups ≡ done ++ (group_records k ps ++ rest_groups)

  groups_agree : (rest_items rest_groups : List ℕ) (t : Tally) (s : Numbered) (g k : ℕ) (done : List ℕ) (before : Bool) (from : ℕ) (gs : List Group)
      → Stands rest_items rest_groups t s g k done before from gs → k + item_count gs ≤ 65535
      → Ended rest_items rest_groups (fold (add_group text mode all pool) t (placed_from text all pool before from gs))
      (number_from text mode pool n (length gs) s g) k done (k + item_count gs) (placed_from text all pool before from gs)
  unfolding fold number_from item_count flat_map group_records placed_by its_place inside defined
  groups_agree rest_items rest_groups t s g k done before from [] a l = record {
    agrees = let e : k ≡ k + 0 = omega arith in subst (λ (m : ℕ). Ag t s m rest_items) e a.agrees;
    groups = a.groups;
  }
  groups_agree rest_items rest_groups t s g k done before from (x ∷ gs) a l =
      on
      (groups_agree rest_items rest_groups (add_group text mode all pool t (its_place rest_items rest_groups t s g k done before from x gs a))
      (number_group text mode pool n s g) (g + 1) (k + length x.items)
      (done ++ group_record k (its_place rest_items rest_groups t s g k done before from x gs a)) (in_line text before from x) (group_end x) gs
      (group_agrees rest_items rest_groups t s g k done before from x gs a (omega arith)) (omega arith))
    where
      p : Placed
      p = its_place rest_items rest_groups t s g k done before from x gs a

      ps : List Placed
      ps = placed_from text all pool (in_line text before from x) (group_end x) gs

      t' : Tally
      t' = fold (add_group text mode all pool) (add_group text mode all pool t p) ps

      s' : Numbered
      s' = number_from text mode pool n (length gs) (number_group text mode pool n s g) (g + 1)

      on : Ended rest_items rest_groups t' s' (k + length x.items) (done ++ group_record k p) (k + length x.items + item_count gs) ps
          → Ended rest_items rest_groups t' s' k done (k + (length x.items + item_count gs)) (p ∷ ps)
      on r = record {
        agrees =
            let e : k + length x.items + item_count gs ≡ k + (length x.items + item_count gs) = omega arith in
            subst (λ (m : ℕ). Ag t' s' m rest_items) e r.agrees;
        groups = r.groups ∙ sym (regroup done (group_record k p) (group_records (k + length x.items) ps) rest_groups);
      }

-- from the records as the sweep leaves them ------------------------------------------------------------------------------------------

pub definitions_agree : DefinitionsAgree
definitions_agree text all pool rest_items rest_groups key f =
    definition_swept text all rest_groups rest_items pool key (each_map _ Closes all (λ g h. h.0) f.closes)

module _ (text : List ℕ) (mode : ℕ) (all : List Group) (pool rest_items rest_groups : List ℕ) (f : Fits text all) where
  ended : Ended text mode pool (length all) all (swept_groups text all rest_groups) (swept_items all rest_items)
      (λ key. definitions_agree text all pool rest_items rest_groups key f)
      rest_items rest_groups (tally_of text mode all pool) (numbered_from text mode all pool rest_items rest_groups) 0 [] (0 + item_count all)
      (placed_of text all pool)
  unfolding tally_of number_all placed_of
  ended =
      groups_agree text mode pool (length all) all (swept_groups text all rest_groups) (swept_items all rest_items)
      (λ key. definitions_agree text all pool rest_items rest_groups key f)
      rest_items rest_groups (tally [] [] [])
      (start (swept_items all rest_items) (swept_groups text all rest_groups))
      0 0 [] false 0 all
      (record {
        agrees = record {
          items = refl;
          count = refl;
          labels = refl;
          sources = refl;
          joined = joined_none text (swept_items all rest_items) (has_pool pool);
          same_items = λ k c h. refl;
          same_groups = λ g c h. refl;
        };
        count = refl;
        groups = refl;
      })
      (omega (arith, f.short, f.room))

  -- the tally of all items agrees with the records at the end
  pub tally_agrees : Agrees text (has_pool pool) (swept_groups text all rest_groups) (swept_items all rest_items) (tally_of text mode all pool)
      (numbered_from text mode all pool rest_items rest_groups) (item_count all) rest_items
  tally_agrees =
      let e : 0 + item_count all ≡ item_count all = omega arith in
      subst
      (λ (m : ℕ).
      Agrees text (has_pool pool) (swept_groups text all rest_groups) (swept_items all rest_items) (tally_of text mode all pool)
      (numbered_from text mode all pool rest_items rest_groups) m rest_items)
      e ended.agrees

  pub numbered_groups : (numbered_from text mode all pool rest_items rest_groups).groups ≡ group_records 0 (placed_of text all pool) ++ rest_groups
  numbered_groups = ended.groups

pub numbers_agree : NumbersAgree
numbers_agree text mode all pool rest_items rest_groups f =
    let a = tally_agrees text mode all pool rest_items rest_groups f in
    record {
      items = a.items;
      groups = numbered_groups text mode all pool rest_items rest_groups f;
      labels = a.labels;
      sources = a.sources;
    }
