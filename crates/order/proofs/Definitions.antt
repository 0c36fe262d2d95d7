-- Sources by the numbers of their definitions:
-- these have the ranks of the sources, and lead back to the sources' numbers.
use Prim.Native.Nat.{ℕ, ◌+◌, ◌-◌, ◌≤◌, ◌<◌}
use native.Mathlib.Omega.{arith}
use native.Mathlib.Numerals.{add-one}
use mathlib.Core.Path.{◌≡◌, refl, sym, ◌∙◌, ap}
use mathlib.Core.List.{List, [], ◌∷◌, ◌++◌, map, map-append}
use mathlib.Core.Logic.{inl, inr}
use mathlib.Core.Bool.{Bool, true, false, not, true≢false}
use lib.ListN.{length, get_or, set, take, drop, length-map}
use lib.Seq.{length-take-le, take_all, take-suc, get_or-drop, get_or-append-add}
use lib.Dec.{ltb}
use borrow.Author.Tests.{lt-ltb, le-ltb, ltb-true, ltb-false}
use Rattle.base.specs.Pick.{pick}
use Rattle.base.specs.Lists.{written}
use Rattle.base.specs.Sorted.{Each, Sorted}
use Rattle.base.proofs.Searches.{first_holds}
use Rattle.base.proofs.Sames.{same_true}
use Rattle.base.proofs.Bools.{and_right}
use Rattle.pool.specs.Layout.{count_of, entry_at}
use Rattle.source.specs.Entry.{is_empty}
use Rattle.base.proofs.Areas.{written_front, written_none, written_byte, written_over}
use Rattle.definition.specs.Defs.{is_defined, entry_defines}
use Rattle.std.specs.Prelude.{Option, Some, None}
use Rattle.definition.specs.declared.defined.Definition.{Definition}
use Rattle.definition.specs.declared.defined.Definition.TheVariants.{Line, Entry}
use Rattle.definition.specs.Lines.{defines_in, defines_key_in, line_in}
use Rattle.definition.specs.Definitions.{definition_in}
use Rattle.records.specs.Records.{key_in}
use Rattle.records.specs.Fields.{group_field}
use Rattle.definition.specs.Defined.{defined_as, found_in, definition_number, definition_at, key_by, DefinedIn}
use Rattle.definition.specs.Entries.{entry_has, entry_in}
use Rattle.order.specs.Order.{less, insert_by, inserted_from}
use Rattle.order.specs.Precedes.{Precedes}
use Rattle.order.specs.References.{source_key_in, rank_in, number_of_key, SourcesKnown}
use Rattle.order.specs.Ordered.{rank_by, definition_of, source_by, SortedBy}
use Rattle.base.proofs.Lasts.{last_holds}
use Rattle.order.proofs.Sorting.{less_asym, less_self}
use Rattle.order.proofs.OrderLaws.{written_part}
use Rattle.order.proofs.Insertions.{insert_alike, inserted_next, inserted_length, inserted_each, inserted_precedes}
use Rattle.records.specs.Widths.{group_first}

-- what a key is defined by ---------------------------------------------------------------------------------------------------------

module _ (text pool groups items key : List ℕ) (n : ℕ) where
  abbrev line : ℕ
  line = line_in text groups items n key

  abbrev entry : ℕ
  entry = entry_in pool key

  abbrev found : Option Definition
  found = found_in text groups items n pool key

  -- one of three
  found_by : (P : Option Definition → Type 0) → (line < n → P (Some (Line line))) → (n ≤ line → entry < count_of pool → P (Some (Entry entry)))
      → (n ≤ line → count_of pool ≤ entry → P None) → P found
  unfolding found_in
  found_by P a b c = go (ltb line n) refl (ltb entry (count_of pool)) refl
    where
      go : (t : Bool) → ltb line n ≡ t → (u : Bool) → ltb entry (count_of pool) ≡ u → P (pick t (Some (Line line)) (pick u (Some (Entry entry)) None))
      go true p u q = a (ltb-true line n p)
      go false p true q = b (ltb-false line n p) (ltb-true entry (count_of pool) q)
      go false p false q = c (ltb-false line n p) (ltb-false entry (count_of pool) q)

  found_there : DefinedIn pool n found
  found_there = found_by (DefinedIn pool n) (λ h. h) (λ h l. l) (λ h l. tt)

  line_key : line < n → key_by text pool groups items (Some (Line line)) ≡ key
  unfolding key_by line_in defines_key_in
  line_key h =
      same_true (key_in text items (group_field groups line group_first)) key
      (and_right (defines_in text groups items line) _ (last_holds (defines_key_in text groups items key) n n (omega arith) h))

  entry_key : entry < count_of pool → key_by text pool groups items (Some (Entry entry)) ≡ key
  unfolding key_by entry_in entry_has entry_defines
  entry_key h =
      same_true (entry_at pool entry).id key
      (and_right (not (is_empty (entry_at pool entry).id)) _ (first_holds (entry_has pool key) (count_of pool) 0 (omega arith)))

  -- it has the key
  found_key : is_defined (definition_in text groups items n pool key) ≡ true → key_by text pool groups items found ≡ key
  unfolding definition_in defined_as
  found_key =
      found_by (λ d. is_defined (defined_as text groups n pool d) ≡ true → key_by text pool groups items d ≡ key)
      (λ h t. line_key h) (λ h l t. entry_key l) (λ h l t. absurd (true≢false (sym t)))

-- the definition that has the number of one
at_number : (pool : List ℕ) (n : ℕ) (d : Option Definition) → DefinedIn pool n d → definition_at pool n (definition_number pool n d) ≡ d
unfolding definition_at definition_number
at_number pool n (Some (Line g)) h = rw (lt-ltb g n h) refl
at_number pool n (Some (Entry i)) h =
    let a : n ≤ n + i = omega arith in
    let z : n + i - n ≡ i = omega arith in
    rw (le-ltb (n + i) n a, z, lt-ltb i (count_of pool) h) refl
at_number pool n None h =
    let a : n ≤ n + count_of pool = omega arith in
    let z : n + count_of pool - n ≡ count_of pool = omega arith in
    let e : count_of pool ≤ count_of pool = omega arith in
    rw (le-ltb (n + count_of pool) n a, z, le-ltb (count_of pool) (count_of pool) e) refl

module _ (text pool groups items : List ℕ) (n m : ℕ) where
  abbrev R : ℕ → List ℕ
  R = rank_in text pool groups items n m

  abbrev B : ℕ → List ℕ
  B = rank_by text pool groups items n

  abbrev D : ℕ → ℕ
  D = definition_of text pool groups items n m

  abbrev S : ℕ → ℕ
  S = source_by text pool groups items n m

  abbrev K : ℕ → List ℕ
  K = source_key_in text items m

  -- the definition of a source
  its_definition : (k : ℕ) → definition_at pool n (D k) ≡ found_in text groups items n pool (K k)
  unfolding definition_of
  its_definition k = at_number pool n (found text pool groups items (K k) n) (found_there text pool groups items (K k) n)

  module _ (k : ℕ) (t : is_defined (definition_in text groups items n pool (K k)) ≡ true) where
    its_rank : B (D k) ≡ R k
    unfolding rank_by rank_in definition_in
    its_rank = rw (its_definition k, found_key text pool groups items (K k) n t) refl

    its_source : number_of_key text items m (K k) ≡ k → S (D k) ≡ k
    unfolding source_by
    its_source e = rw (its_definition k, found_key text pool groups items (K k) n t) e

-- lists of sources -----------------------------------------------------------------------------------------------------------------

-- and are in order
sorted_alike : (D : ℕ → ℕ) (B R : ℕ → List ℕ) (l : List ℕ) → Each (λ q. B (D q) ≡ R q) l → Sorted (Precedes R) l → SortedBy B (map D l)
sorted_alike D B R [] a s = tt
sorted_alike D B R (q ∷ qs) a s = (rest qs a.1 s.0, sorted_alike D B R qs a.1 s.1)
  where
    one : (x : ℕ) → B (D x) ≡ R x → Precedes R q x → less (B (D x)) (B (D q)) ≡ false
    one x e (inl h) = rw (e, a.0) (less_asym (R q) (R x) h)
    one x e (inr h) = rw (e, a.0, h.0) (less_self (R x))

    rest : (l : List ℕ) → Each (λ x. B (D x) ≡ R x) l → Each (Precedes R q) l → Each (λ y. less (B y) (B (D q)) ≡ false) (map D l)
    rest [] e h = tt
    rest (x ∷ xs) e h = (one x e.0 h.0, rest xs e.1 h.1)

map_back : (D S : ℕ → ℕ) (l : List ℕ) → Each (λ q. S (D q) ≡ q) l → map S (map D l) ≡ l
map_back D S [] a = refl
map_back D S (q ∷ qs) a = rw a.0 (ap (λ (l : List ℕ). q ∷ l) (map_back D S qs a.1))

module _ (text pool groups items : List ℕ) (n m : ℕ) (before : List ℕ) where
  abbrev ranked : ℕ → List ℕ
  ranked i = inserted_from (rank_in text pool groups items n m) i [] 1

  abbrev defined : ℕ → List ℕ
  defined i = map (definition_of text pool groups items n m) (inserted_from (rank_in text pool groups items n m) i [] 1)

  defined_count : (i : ℕ) → length (defined i) ≡ i
  defined_count i =
      omega (arith, length-map (ranked i) (definition_of text pool groups items n m), inserted_length (rank_in text pool groups items n m) i [] 1)

  pub definitions_start : before ≡ written (map (definition_of text pool groups items n m) (inserted_from (rank_in text pool groups items n m) 0 [] 1)) before
  unfolding inserted_from
  definitions_start = written_none before

  module _ (sources : ℕ) (known : SourcesKnown text pool groups items n m sources) where
    alike : (k : ℕ) → 1 ≤ k → k ≤ sources → rank_by text pool groups items n (definition_of text pool groups items n m k) ≡ rank_in text pool groups items n m k
    alike k a b = its_rank text pool groups items n m k (known.defined k a b)

    -- one more definition
    insert_next : (i : ℕ) → i < sources
        → insert_by (rank_by text pool groups items n) (defined i) (definition_of text pool groups items n m (i + 1)) ≡ defined (i + 1)
    insert_next i h =
        let z : 1 + i ≡ i + 1 = omega arith in
        let g : insert_by (rank_in text pool groups items n m) (ranked i) (i + 1) ≡ ranked (i + 1)
        = rw z at (inserted_next (rank_in text pool groups items n m) i [] 1) in
        insert_alike (definition_of text pool groups items n m) (rank_by text pool groups items n) (rank_in text pool groups items n m) (ranked i) (i + 1)
        (inserted_each (rank_in text pool groups items n m) _ i [] 1 tt (λ j b c. alike j b (omega arith)))
        (alike (i + 1) (omega arith) (omega arith))
        ∙ ap (map (definition_of text pool groups items n m)) g

    pub definitions_more : (i : ℕ) {d : ℕ} {numbers out : List ℕ} → i < sources
        → numbers ≡ written (map (definition_of text pool groups items n m) (inserted_from (rank_in text pool groups items n m) i [] 1)) before
        → d ≡ definition_of text pool groups items n m (i + 1)
        → out ≡ written (insert_by (rank_by text pool groups items n) (take i numbers) d) numbers
        → out ≡ written (map (definition_of text pool groups items n m) (inserted_from (rank_in text pool groups items n m) (i + 1) [] 1)) before
    definitions_more i {d} {numbers} h p q o =
        let l = defined_count i in
        let k = defined_count (i + 1) in
        let f : take i numbers ≡ defined i = rw p (written_front (defined i) before i (sym l)) in
        o ∙ rw (f, q, insert_next i h, p) (written_over (defined i) (defined (i + 1)) before (omega arith))

    -- what was inserted so far is in order
    defined_sorted : (i : ℕ) → i ≤ sources → SortedBy (rank_by text pool groups items n) (defined i)
    defined_sorted i h =
        sorted_alike (definition_of text pool groups items n m) (rank_by text pool groups items n) (rank_in text pool groups items n m) (ranked i)
        (inserted_each (rank_in text pool groups items n m) _ i [] 1 tt (λ j b c. alike j b (omega arith)))
        (inserted_precedes (rank_in text pool groups items n m) i [] 1 tt tt)

    pub definitions_sorted : (i : ℕ) {numbers : List ℕ} → i ≤ sources
        → numbers ≡ written (map (definition_of text pool groups items n m) (inserted_from (rank_in text pool groups items n m) i [] 1)) before
        → SortedBy (rank_by text pool groups items n) (take i numbers)
    definitions_sorted i {numbers} h p =
        let f : take i numbers ≡ defined i = rw p (written_front (defined i) before i (sym (defined_count i))) in
        rw f (defined_sorted i h)

    -- and the numbers of the sources for those of their definitions
    pub sources_back : {middle out : List ℕ}
        → middle ≡ written (map (definition_of text pool groups items n m) (inserted_from (rank_in text pool groups items n m) sources [] 1)) before
        → out ≡ written (map (source_by text pool groups items n m) (take sources middle)) middle
        → out ≡ written (inserted_from (rank_in text pool groups items n m) sources [] 1) before
    sources_back {middle} p o =
        let f : take sources middle ≡ defined sources = rw p (written_front (defined sources) before sources (sym (defined_count sources))) in
        let b : map (source_by text pool groups items n m) (defined sources) ≡ ranked sources
        = map_back (definition_of text pool groups items n m) (source_by text pool groups items n m) (ranked sources)
        (inserted_each (rank_in text pool groups items n m) _ sources [] 1 tt
        (λ j a c. its_source text pool groups items n m j (known.defined j a (omega arith)) (known.numbered j a (omega arith)))) in
        let k = length-map (ranked sources) (definition_of text pool groups items n m) in
        o ∙ rw (f, b, p) (written_over (defined sources) (ranked sources) before (omega arith))

-- the pass that puts the numbers of the sources for those of their definitions
module _ (text pool groups items : List ℕ) (n m : ℕ) (before : List ℕ) where
  pub back_start : before ≡ written (map (source_by text pool groups items n m) (take 0 before)) before
  back_start = written_none before

  pub back_more : (i c : ℕ) {d v : ℕ} {numbers : List ℕ} → i < c → c ≤ length before
      → numbers ≡ written (map (source_by text pool groups items n m) (take i before)) before → d ≡ get_or numbers i 0
      → v ≡ source_by text pool groups items n m d
      → set numbers i v ≡ written (map (source_by text pool groups items n m) (take (i + 1) before)) before
  unfolding written
  back_more i c {d} {v} {numbers} h l p q e =
      let f = source_by text pool groups items n m in
      let out = map f (take i before) in
      let k : length out ≡ i = length-map (take i before) f ∙ length-take-le i before (omega arith) in
      let z : length out + 0 ≡ i = omega arith in
      let y : length out + 0 ≡ length out = omega arith in
      let g : get_or numbers i 0 ≡ get_or before i 0
      = rw p (ap (λ (j : ℕ). get_or (out ++ drop (length out) before) j 0) (sym z) ∙ get_or-append-add out (drop (length out) before) 0 0
      ∙ get_or-drop (length out) before 0 0 ∙ ap (λ (j : ℕ). get_or before j 0) z) in
      let t : take (i + 1) before ≡ take i before ++ (get_or before i 0 ∷ []) = rw (add-one i) (take-suc before i 0 (omega arith)) in
      let u : map f (take (i + 1) before) ≡ out ++ (v ∷ []) = rw (t, e, q, g) (map-append f (take i before) (get_or before i 0 ∷ [])) in
      written_byte before numbers out i v p (sym k) (omega arith) ∙ ap (λ (x : List ℕ). written x before) (sym u)

pub back_all : (text pool groups items : List ℕ) (n m s : ℕ) (area : List ℕ) {i : ℕ} {numbers : List ℕ} → i ≡ length (take s area) → s ≤ length area
    → numbers ≡ written (map (source_by text pool groups items n m) (take i (take s area))) (take s area)
    → numbers ++ drop s area ≡ written (map (source_by text pool groups items n m) (take s area)) area
back_all text pool groups items n m s area e h p =
    let f = source_by text pool groups items n m in
    let k : take (length (take s area)) (take s area) ≡ take s area = take_all (length (take s area)) (take s area) (omega arith) in
    let l : length (map f (take s area)) ≡ s = length-map (take s area) f ∙ length-take-le s area h in
    rw (p, e, k) (written_part (map f (take s area)) area s l h)
