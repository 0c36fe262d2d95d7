-- Document 01, Added by design: what an annotation says of a text's groups, sources and items,
-- record by record.
use Rattle.std.specs.Prelude.{ℕ, ◌*◌, ◌<◌, ◌≡◌, length, get_or, take}
use mathlib.Core.List.{List, [], map, flatten, Perm}
use Rattle.std.proofs.Math.Option.{Option, none, some}
use Rattle.base.specs.Pick.{pick}
use Rattle.base.specs.Lists.{up_from}
use Rattle.base.specs.Sorted.{Sorted}
use Rattle.item.specs.Group.{Group}
use Rattle.records.specs.Widths.{item_width, item_number, item_use, item_label, item_label_length}
use Rattle.pool.specs.Layout.{has_pool}
use Rattle.standing.specs.GroupRecords.{Placed, item_count, item_records, group_records}
use Rattle.records.specs.Fields.{item_field}
use Rattle.order.specs.Precedes.{Precedes}
use Rattle.annotation.specs.Sources.{Source, source_key}
use Rattle.annotation.specs.Order.{rank_of}
use Rattle.annotation.specs.Standings.{StandingsFrom}
use Rattle.annotation.specs.Content.{Areas, placed_of, label_for, tally_of}
use Rattle.annotation.specs.Items.{numbered_keys, first_uses, each_item, item_numbers, item_keys, use_after}

-- the labels of the items: in a numbered group by the number of the item's source, in another none
abbrev pub item_labels : List ℕ → ℕ → List Group → List ℕ → List Source → List Placed → List (List ℕ)
item_labels text mode all pool sources = each_item (λ numbered i. pick numbered (label_for text mode all pool sources i) [])

-- The offset of an item's label: in a numbered group (the item has a key in `item_keys`) the length of the labels before it; 0 in another.
unfoldable pub label_after : List (List ℕ) → Option (List ℕ) → ℕ
label_after before none = 0
label_after before (some key) = length (flatten before)

-- `content` says of the groups `all`, which have the standings in `placed`, and of their items:
pub record SaysOf (text : List ℕ) (mode : ℕ) (pool : List ℕ) (all : List Group) (placed : List Placed) (sources : List Source) (content : Areas)
    : Type 0 where
  -- one record for each group: "pair, first item .., item count, standing"
  pub groups : content.groups ≡ group_records 0 placed
  -- "standing (0 in a definition line, 1 a key undefined, 2 numbered)"
  pub standings : StandingsFrom text all pool [] placed
  -- one record for each item; its first 12 numbers, from prefix to marks, are those of its record when it is looked up
  pub count : length content.items ≡ item_width * item_count all
  pub items : (k c : ℕ) → k < item_count all → c < 12 → item_field content.items k c ≡ item_field (item_records all) k c
  -- "A source's number is the order of its first use in numbered groups, from 1."
  pub in_order : map (λ (s : Source). s.key) sources ≡ first_uses [] (numbered_keys text placed)
  pub numbers : (k : ℕ) → k < item_count all → item_field content.items k item_number ≡ get_or (item_numbers text sources placed) k 0
  -- "Reference record, one u16 a source: its number, in reference order": each number once, "mode 0 by number; mode 1 by author bytes, or by
  -- key where no author is given, equal ones by number"
  pub references : Perm content.references (up_from 1 (length sources))
  pub by_number : mode ≡ 0 → Sorted (λ (m n : ℕ). m < n) content.references
  pub by_rank : mode ≡ 1 → Sorted (Precedes (λ n. rank_of text all pool (source_key sources n))) content.references
  -- "With a pool present, use indices of a source run 1, 2, and on."
  pub uses : (k : ℕ) → k < item_count all
      → item_field content.items k item_use ≡ use_after (has_pool pool) (take k (item_keys text placed)) (get_or (item_keys text placed) k none)
  -- "Labels follow each other from offset 0 in item order."
  pub labels : content.labels ≡ flatten (item_labels text mode all pool sources placed)
  -- "label pair into the label bytes": its offset, also where the label is empty ("A numbered empty label is its offset with length 0"), and
  -- 0 "where not numbered"
  pub label_offsets : (k : ℕ) → k < item_count all
      → item_field content.items k item_label
      ≡ label_after (take k (item_labels text mode all pool sources placed)) (get_or (item_keys text placed) k none)
  -- the length of each item's label
  pub label_lengths : (k : ℕ) → k < item_count all
      → item_field content.items k item_label_length ≡ length (get_or (item_labels text mode all pool sources placed) k [])

-- with the standings of the groups, and the sources of the numbered ones by number
abbrev pub Says : List ℕ → ℕ → List ℕ → List Group → Areas → Type 0
Says text mode pool all content = SaysOf text mode pool all (placed_of text all pool) (tally_of text mode all pool).sources content
