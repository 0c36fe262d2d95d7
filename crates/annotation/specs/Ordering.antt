-- Follows the code; nothing to believe: numbers and references after the whole sweep, over the records that it left,
-- and the answer by the room that there is.
use Rattle.std.specs.Prelude.{ℕ, ◌≤◌, ◌≡◌, List, Bool, ◌&&◌, length, leb, Result, Ok, Err}
use Rattle.base.specs.Pick.{pick}
use Rattle.base.specs.Lists.{written}
use Rattle.numbering.specs.Numbers.{Numbered, number_all}
use Rattle.numbering.specs.Progress.{room_of}
use Rattle.order.specs.References.{references_in, SourcesKnown}
use Rattle.base.specs.declared.refusal.Refusal.{Refusal}
use Rattle.base.specs.declared.refusal.Refusal.TheVariants.{NoRoom}
use Rattle.annotation.specs.declared.answer.Counts.{Counts}
use Rattle.annotation.specs.Call.{zeros}
use Rattle.annotation.specs.Values.{counts}

-- the labels and the references have room
unfoldable pub room_then : Numbered → List ℕ → List ℕ → Bool
room_then t references labels = leb (length t.labels) (room_of labels) && leb t.sources (length references)

-- the references, by the records as they are once they are numbered
abbrev pub references_then : List ℕ → ℕ → List ℕ → ℕ → ℕ → Numbered → List ℕ
references_then text mode pool n m t = references_in text pool t.groups t.items n m mode t.sources

-- `t` is what numbering gives of `n` group and `m` item records: its sources can be put in order
pub record Orderable (text pool : List ℕ) (n m : ℕ) (t : Numbered) : Type 0 where
  pub few : t.sources ≤ 65535
  pub known : SourcesKnown text pool t.groups t.items n m t.sources

-- the counts or the refusal, and the four areas then
pub record OrderedBy (t : Numbered) (ordered : List ℕ) (n m : ℕ) (items groups references labels : List ℕ) (r : Result Counts Refusal)
    (items' groups' references' labels' : List ℕ) : Type 0 where
  pub answer : r ≡ pick (room_then t references labels) (Ok (counts n m t.sources (length t.labels))) (Err NoRoom)
  pub item_area : items' ≡ pick (room_then t references labels) t.items (zeros items)
  pub group_area : groups' ≡ pick (room_then t references labels) t.groups (zeros groups)
  pub reference_area : references' ≡ pick (room_then t references labels) (written ordered references) (zeros references)
  pub label_area : labels' ≡ pick (room_then t references labels) (written t.labels labels) (zeros labels)

-- from the records that the sweep left
abbrev pub Ordered : List ℕ → ℕ → List ℕ → ℕ → ℕ → List ℕ → List ℕ → List ℕ → List ℕ → Result Counts Refusal
    → List ℕ → List ℕ → List ℕ → List ℕ → Type 0
Ordered text mode pool n m items groups references labels =
    OrderedBy
    (number_all text mode pool n items groups)
    (references_then text mode pool n m (number_all text mode pool n items groups))
    n m items groups references labels
