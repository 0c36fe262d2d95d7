-- THEOREMS `RecordsUsed` and `SourcesUsed`: the uses in the
-- item records, of the sources, and the final ones.
use Prim.Native.Nat.{ℕ, ◌+◌, ◌*◌, ◌<◌}
use native.Mathlib.Omega.{arith}
use mathlib.Core.Path.{◌≡◌, refl, sym, ◌∙◌, ap}
use mathlib.Core.List.{List, [], ◌∷◌, ◌++◌, append-nil, append_assoc}
use mathlib.Core.Bool.{Bool, true, false}
use mathlib.Core.Option.{Option, none, some}
use lib.ListN.{length, get_or, take, length-append, get_or-append}
use lib.Seq.{get_or_at, take-append-le, take_at}
use lib.Dec.{eqb}
use Rattle.base.specs.Pick.{pick}
use Rattle.base.specs.Lists.{same}
use Rattle.base.specs.Sorted.{Each, Sorted}
use Rattle.base.specs.Spans.{span}
use Rattle.item.specs.declared.Item.{Item}
use Rattle.item.specs.Group.{Group}
use Rattle.records.specs.ItemRecords.{item_record, unnumbered_record}
use Rattle.records.specs.Widths.{item_width, item_use}
use Rattle.pool.specs.Layout.{has_pool}
use Rattle.definition_line.specs.Lines.{key_of}
use Rattle.standing.specs.GroupRecords.{Placed}
use Rattle.records.specs.Fields.{item_field}
use Rattle.annotation.specs.Sources.{Source, number_of, uses_of, use_of, used}
use Rattle.annotation.specs.Content.{Tally, label_for, cited_item, numbered, unnumbered, add_item, tally_of, placed_of}
use Rattle.annotation.specs.Facts.{KeysDiffer, RecordsUsed, SourcesUsed, final_use}
use Rattle.annotation.specs.Items.{item_keys, uses_in, use_after}
use Rattle.base.proofs.Sames.{same_refl, same_true}
use Rattle.annotation.proofs.Places.{uses_used, uses_other}
use Rattle.annotation.proofs.Numbers.{sources_differ}
use Rattle.annotation.proofs.Each.{cell_front, count_more, by_place, each_length, tally_each}
use Rattle.standing.proofs.Swept.{placed_groups}
use Rattle.uses.proofs.Fields.{item_field_lem}

-- one more item
uses_none_more : (x : List ℕ) (is : List (Option (List ℕ))) → uses_in x (is ++ (none ∷ [])) ≡ uses_in x is
unfolding uses_in
uses_none_more x [] = refl
uses_none_more x (none ∷ is) = uses_none_more x is
uses_none_more x (some k ∷ is) = ap (λ (n : ℕ). pick (same k x) 1 0 + n) (uses_none_more x is)

uses_some_more : (x key : List ℕ) (is : List (Option (List ℕ))) → uses_in x (is ++ (some key ∷ [])) ≡ uses_in x is + pick (same key x) 1 0
unfolding uses_in
uses_some_more x key [] = omega arith
uses_some_more x key (none ∷ is) = uses_some_more x key is
uses_some_more x key (some k ∷ is) = omega (arith, uses_some_more x key is)

-- the records, the sources and the items so far
record UsedSo (pooled : Bool) (t : Tally) (is : List (Option (List ℕ))) : Type 0 where
  count : length t.records ≡ item_width * length is
  cells : (k : ℕ) → k < length is → item_field t.records k item_use ≡ use_after pooled (take k is) (get_or is k none)
  uses : (x : List ℕ) → uses_of x t.sources ≡ uses_in x is

-- one more record, with the use of its item
cells_on : (pooled : Bool) (t : Tally) (is : List (Option (List ℕ))) (i : Option (List ℕ)) (row : List ℕ) → UsedSo pooled t is
    → get_or row 13 0 ≡ use_after pooled is i
    → (k : ℕ) → k < length (is ++ (i ∷ []))
    → item_field (t.records ++ row) k item_use ≡ use_after pooled (take k (is ++ (i ∷ []))) (get_or (is ++ (i ∷ [])) k none)
cells_on pooled t is i row u e =
    by_place (λ k. item_field (t.records ++ row) k item_use ≡ use_after pooled (take k (is ++ (i ∷ []))) (get_or (is ++ (i ∷ [])) k none)) is i
    (λ k l. rw (take-append-le k is (i ∷ []) (omega arith), get_or-append is (i ∷ []) none k l)
    (cell_front t.records row (length is) k 13 u.count l (omega arith) ∙ u.cells k l))
    (rw (take_at is (i ∷ []) (length is) refl, get_or_at is i [] none (length is) refl)
    (item_field_lem t.records row (length is) 13 u.count ∙ e))

module _ (text : List ℕ) (mode : ℕ) (all : List Group) (pool : List ℕ) where
  item_used : (p : Placed) (t : Tally) (i : Item) (is : List (Option (List ℕ))) → UsedSo (has_pool pool) t is
      → UsedSo (has_pool pool) (add_item text mode all pool p t i) (is ++ (pick (eqb p.standing 2) (some (key_of text i)) none ∷ []))
  unfolding add_item numbered unnumbered cited_item unnumbered_record item_record use_after use_of
  item_used p t i is u = go (eqb p.standing 2)
    where
      row : List ℕ
      row =
          item_record i (number_of (key_of text i) t.sources) (use_of (has_pool pool) (key_of text i) t.sources)
          (span (length t.labels) (length (label_for text mode all pool t.sources i)))

      more : (x : List ℕ) (b : Bool) → same (key_of text i) x ≡ b → uses_of x (used (key_of text i) t.sources) ≡ uses_in x is + pick b 1 0
      more x true q =
          let e = same_true (key_of text i) x q in
          rw e (omega (arith, uses_used x t.sources, u.uses x))
      more x false q = omega (arith, uses_other x (key_of text i) t.sources q, u.uses x)

      go : (b : Bool)
          → UsedSo (has_pool pool) (pick b (numbered text mode all pool t i) (unnumbered t i))
          (is ++ (pick b (some (key_of text i)) none ∷ []))
      go true = record {
        count = count_more t.records row is (some (key_of text i)) u.count refl;
        cells = cells_on (has_pool pool) t is (some (key_of text i)) row u (ap (λ (n : ℕ). pick (has_pool pool) (n + 1) 0) (u.uses (key_of text i)));
        uses = λ x. more x (same (key_of text i) x) refl ∙ sym (uses_some_more x (key_of text i) is);
      }
      go false = record {
        count = count_more t.records (unnumbered_record i) is none u.count refl;
        cells = cells_on (has_pool pool) t is none (unnumbered_record i) u refl;
        uses = λ x. u.uses x ∙ sym (uses_none_more x is);
      }

  all_used : UsedSo (has_pool pool) (tally_of text mode all pool) (item_keys text (placed_of text all pool))
  unfolding uses_of uses_in
  all_used =
      tally_each text mode all pool _ _ (UsedSo (has_pool pool)) (λ p t i is ps xs e u. item_used p t i xs u) refl
      (record { count = refl; cells = λ j l. absurd (omega arith); uses = λ x. refl })

pub records_used : RecordsUsed
unfolding placed_of
records_used text mode all pool k h =
    (all_used text mode all pool).cells k
    (rw (each_length (λ numbered (i : Item). pick numbered (some (key_of text i)) none) (placed_of text all pool), placed_groups _ text false 0 all) h)

-- of the sources -----------------------------------------------------------------------------------------------------------------------

-- a source behind one with another key
uses_behind : (f : List ℕ → ℕ) (s : Source) (ss xs : List Source) → Each (KeysDiffer s) xs → Each (λ (x : Source). uses_of x.key (s ∷ ss) ≡ f x.key) xs
    → Each (λ (x : Source). uses_of x.key ss ≡ f x.key) xs
unfolding uses_of
uses_behind f s ss [] d h = tt
uses_behind f s ss (x ∷ xs) d h = (go (same s.key x.key) refl h.0, uses_behind f s ss xs d.1 h.1)
  where
    go : (b : Bool) → same s.key x.key ≡ b → pick b s.uses (uses_of x.key ss) ≡ f x.key → uses_of x.key ss ≡ f x.key
    go true q e = absurd (d.0 (same_true s.key x.key q))
    go false q e = e

uses_each : (f : List ℕ → ℕ) (ss : List Source) → Sorted KeysDiffer ss → Each (λ (s : Source). uses_of s.key ss ≡ f s.key) ss
    → Each (λ (s : Source). s.uses ≡ f s.key) ss
unfolding uses_of
uses_each f [] d h = tt
uses_each f (s ∷ ss) d h = (rw (same_refl s.key) at h.0, uses_each f ss d.1 (uses_behind f s ss ss d.0 h.1))

each_of : (P : Source → Type 0) (ss : List Source) → ((s : Source) → P s) → Each P ss
each_of P [] h = tt
each_of P (s ∷ ss) h = (h s, each_of P ss h)

pub sources_used : SourcesUsed
sources_used text mode all pool =
    let keys = item_keys text (placed_of text all pool) in
    let sources = (tally_of text mode all pool).sources in
    uses_each (λ x. uses_in x keys) sources (sources_differ text mode all pool)
    (each_of (λ s. uses_of s.key sources ≡ uses_in s.key keys) sources (λ s. (all_used text mode all pool).uses s.key))

-- the final ones -----------------------------------------------------------------------------------------------------------------------

-- with a pool the final use of a key is the count of its uses
module _ (rows key : List ℕ) (all : List (Option (List ℕ)))
    (h : (k : ℕ) → k < length all → item_field rows k item_use ≡ use_after true (take k all) (get_or all k none)) where
  final_uses : (is before : List (Option (List ℕ))) → before ++ is ≡ all
      → final_use rows key (length before) (uses_in key before) is ≡ uses_in key all
  unfolding final_use use_after
  final_uses [] before e = ap (uses_in key) (sym (append-nil before) ∙ e)
  final_uses (none ∷ is) before e =
      let l : length before + 1 ≡ length (before ++ (none ∷ [])) = omega (arith, length-append before (none ∷ [])) in
      rw (l, ← uses_none_more key before) (final_uses is (before ++ (none ∷ [])) (append_assoc before (none ∷ []) is ∙ e))
  final_uses (some x ∷ is) before e =
      let l : length before + 1 ≡ length (before ++ (some x ∷ [])) = omega (arith, length-append before (some x ∷ [])) in
      rw (l, go (same x key) refl ∙ sym (uses_some_more key x before))
      (final_uses is (before ++ (some x ∷ [])) (append_assoc before (some x ∷ []) is ∙ e))
    where
      go : (b : Bool) → same x key ≡ b → pick b (item_field rows (length before) item_use) (uses_in key before) ≡ uses_in key before + pick b 1 0
      go true q =
          h (length before) (omega (arith, length-append before (some x ∷ is), ap length e))
          ∙ rw (← e, take_at before (some x ∷ is) (length before) refl, get_or_at before (some x) is none (length before) refl, same_true x key q)
      go false q = omega arith

pub final_use_lem : (text : List ℕ) (mode : ℕ) (all : List Group) (pool : List ℕ) → has_pool pool ≡ true → (key : List ℕ)
    → final_use (tally_of text mode all pool).records key 0 0 (item_keys text (placed_of text all pool)) ≡ uses_in key (item_keys text (placed_of text all pool))
unfolding uses_in
final_use_lem text mode all pool pooled key =
    let keys = item_keys text (placed_of text all pool) in
    final_uses (tally_of text mode all pool).records key keys
    (λ k l. (all_used text mode all pool).cells k l ∙ ap (λ (b : Bool). use_after b (take k keys) (get_or keys k none)) pooled)
    keys [] refl
