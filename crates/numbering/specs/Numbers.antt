-- Follows the code; nothing to believe: numbers, uses and labels as
-- the code writes them into the records, record by record.
use Rattle.std.specs.Prelude.{ℕ, zero, suc, ◌+◌, ◌*◌, List, [], ◌++◌, Bool, true, ◌&&◌, not, length, set, eqb}
use Rattle.base.specs.Pick.{pick}
use Rattle.records.specs.Widths.{group_width, group_standing, group_count, group_first}
use Rattle.pool.specs.Layout.{has_pool}
use Rattle.definition.specs.Defs.{is_defined}
use Rattle.definition.specs.Definitions.{definition_in}
use Rattle.records.specs.Records.{key_in, suppressed_in}
use Rattle.records.specs.Fields.{group_field}
use Rattle.label.specs.Labels.{label_text}
use Rattle.uses.specs.Uses.{number_in, use_in, sources_in, set_last}

-- the sources, the item and group records, and the label bytes so far
pub record Numbered : Type 0 where
  pub sources : ℕ
  pub items : List ℕ
  pub groups : List ℕ
  pub labels : List ℕ

-- before the first group: nothing is numbered
abbrev pub start : List ℕ → List ℕ → Numbered
start items groups = record { sources = 0; items = items; groups = groups; labels = [] }

-- the key of item record `k` is defined
unfoldable pub key_defined : List ℕ → List ℕ → List ℕ → List ℕ → ℕ → ℕ → Bool
key_defined text pool groups items n k = is_defined (definition_in text groups items n pool (key_in text items k))

-- the keys of the `m` records from `k` on are defined
unfoldable pub keys_defined : List ℕ → List ℕ → List ℕ → List ℕ → ℕ → ℕ → ℕ → Bool
keys_defined text pool groups items n zero k = true
keys_defined text pool groups items n (suc m) k =
    key_defined text pool groups items n k && keys_defined text pool groups items n m (k + 1)

-- the label of item record `k` with this number
abbrev pub record_label : List ℕ → ℕ → List ℕ → List ℕ → List ℕ → ℕ → ℕ → ℕ → List ℕ
record_label text mode pool groups items n k number =
    label_text mode (suppressed_in items k) number (definition_in text groups items n pool (key_in text items k))

-- What does not change on the way: text, mode, pool, and the count of groups
module _ (text : List ℕ) (mode : ℕ) (pool : List ℕ) (n : ℕ) where
  -- the label of item record `k`, with the number that it gets
  unfoldable pub label_in : Numbered → ℕ → List ℕ
  label_in t k = record_label text mode pool t.groups t.items n k (number_in text t.items t.sources k)

  -- one more item of a numbered group: record `k`, with this label
  unfoldable pub cite_as : Numbered → ℕ → List ℕ → Numbered
  cite_as t k label = record {
    sources = sources_in text t.items t.sources k;
    items =
        set_last t.items k
        (number_in text t.items t.sources k)
        (use_in text t.items (has_pool pool) k)
        (length t.labels)
        (length label);
    groups = t.groups;
    labels = t.labels ++ label;
  }

  -- with its own
  unfoldable pub cite_in : Numbered → ℕ → Numbered
  cite_in t k = cite_as t k (label_in t k)

  -- the `m` item records from `k` on
  unfoldable pub cite_from : ℕ → Numbered → ℕ → Numbered
  cite_from zero t k = t
  cite_from (suc m) t k = cite_from m (cite_in t k) (k + 1)

  -- group record `g` with the standing 2
  unfoldable pub stands_numbered : Numbered → ℕ → Numbered
  stands_numbered t g = record {
    sources = t.sources;
    items = t.items;
    groups = set t.groups (group_width * g + group_standing) 2;
    labels = t.labels;
  }

  -- a group with an undefined key gets no number, use or label, and none in a definition line does
  unfoldable pub is_numbered : Numbered → ℕ → Bool
  is_numbered t g =
      not (eqb (group_field t.groups g group_standing) 0)
      && keys_defined text pool t.groups t.items n (group_field t.groups g group_count) (group_field t.groups g group_first)

  -- group record `g`, and its item records where it is numbered
  unfoldable pub number_group : Numbered → ℕ → Numbered
  number_group t g =
      pick (is_numbered t g) (cite_from (group_field t.groups g group_count) (stands_numbered t g) (group_field t.groups g group_first)) t

  -- the `m` group records from `g` on
  unfoldable pub number_from : ℕ → Numbered → ℕ → Numbered
  number_from zero t g = t
  number_from (suc m) t g = number_from m (number_group t g) (g + 1)

  -- all of them, from the records as the sweep left them
  unfoldable pub number_all : List ℕ → List ℕ → Numbered
  number_all items groups = number_from n (start items groups) 0
